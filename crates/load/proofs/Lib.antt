pub mod Accepted
pub mod Held
pub mod Owned
pub mod Setup
pub mod Stays
pub mod Theorems
