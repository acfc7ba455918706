pub mod Project
pub mod Tested
