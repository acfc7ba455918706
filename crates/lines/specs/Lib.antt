pub mod Line
pub mod Report
pub mod Run
