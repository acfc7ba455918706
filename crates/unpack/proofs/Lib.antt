pub mod Text
pub mod Turns
