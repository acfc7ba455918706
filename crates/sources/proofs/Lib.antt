pub mod Rounds
pub mod Defaults
