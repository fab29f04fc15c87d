pub mod Pass
pub mod Called
pub mod Laws
