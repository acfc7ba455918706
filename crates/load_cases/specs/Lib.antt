pub mod LoadCase
pub mod Setup
