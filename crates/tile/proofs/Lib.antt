pub mod Places
pub mod Owner
pub mod Passes
pub mod Samples
pub mod Moves
pub mod Lent
