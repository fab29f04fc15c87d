pub mod Putting
pub mod Whole
pub mod Laws
