pub mod Tested
pub mod Owned
pub mod Keeps
