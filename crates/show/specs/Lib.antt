pub mod Cells
pub mod Picture
pub mod Text
