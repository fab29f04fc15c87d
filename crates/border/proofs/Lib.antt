pub mod Finite
pub mod Laws
pub mod Sides
