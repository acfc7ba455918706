pub mod After
pub mod Laws
pub mod Perm
pub mod Small
