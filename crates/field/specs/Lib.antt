pub mod Field
pub mod Code
pub mod Examples
pub mod Lent
pub mod Copied
