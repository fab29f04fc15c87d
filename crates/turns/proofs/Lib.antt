pub mod Laws
pub mod Lifted
