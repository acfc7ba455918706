pub mod Laws
pub mod Mask
pub mod Range
pub mod Theorems
