pub mod Bounds
pub mod Defaults
pub mod Lists
pub mod Tests
