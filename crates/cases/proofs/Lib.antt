pub mod Verdicts
pub mod Elements
