pub mod Laws
pub mod Sorted
