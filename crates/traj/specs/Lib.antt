pub mod Traj
pub mod Code
