pub mod Counting
pub mod Keeps
pub mod Same
pub mod Seven
pub mod Slots
pub mod Turns
