pub mod Words
pub mod Lists
pub mod Calls
pub mod Report
pub mod Run
