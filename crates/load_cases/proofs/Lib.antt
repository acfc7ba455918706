pub mod LoadCase
pub mod SetupParts
