pub mod Bits
pub mod Rounding
pub mod Signed
pub mod Table
pub mod Tests
