pub mod Over
pub mod Seven
