pub mod Asked
pub mod Load
pub mod Calls
pub mod Theorems
