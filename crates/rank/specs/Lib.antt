pub mod Rank
pub mod Theorems
