pub mod Edges
pub mod Units
pub mod Laws
