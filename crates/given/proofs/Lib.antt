pub mod Giving
pub mod Laws
