pub mod Averages
pub mod Packing
pub mod Projection
pub mod Sums
