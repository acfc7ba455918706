pub mod Joined
pub mod SignedByte
