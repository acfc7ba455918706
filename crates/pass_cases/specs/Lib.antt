pub mod PassCase
pub mod Low
pub mod Code
