pub mod Lists
pub mod Rows
pub mod Ways
pub mod Windows
pub mod Owned
pub mod Range
