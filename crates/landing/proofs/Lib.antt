pub mod Landings
