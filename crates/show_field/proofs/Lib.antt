pub mod Joined
pub mod Mapped
pub mod Parts
pub mod Shows
pub mod Tests
