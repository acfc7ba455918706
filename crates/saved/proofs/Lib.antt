pub mod Fine
pub mod Parts
