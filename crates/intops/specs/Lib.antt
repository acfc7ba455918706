pub mod Bits
pub mod Bounds
pub mod Choice
pub mod Rounding
