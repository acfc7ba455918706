pub mod Kinds
pub mod Report
pub mod Run
