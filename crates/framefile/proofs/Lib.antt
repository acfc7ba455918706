pub mod Bounds
pub mod Name
pub mod Planes
