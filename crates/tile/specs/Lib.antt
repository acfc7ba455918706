pub mod Geometry
pub mod Layout
pub mod Lent
pub mod Owner
pub mod Passes
pub mod Sound
pub mod Sampled
pub mod Tiles
