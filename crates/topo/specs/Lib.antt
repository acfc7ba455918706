pub mod Theorems
pub mod Topo
