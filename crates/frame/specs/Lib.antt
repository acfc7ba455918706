pub mod Frame
pub mod Theorems
