pub mod Store
pub mod Program
pub mod Calls
pub mod Lent
