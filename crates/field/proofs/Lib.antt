pub mod Owned
pub mod Borrows
pub mod Ways
pub mod Copies
pub mod Rows
pub mod Keeps
pub mod Examples
