pub mod Pass
pub mod Written
pub mod Laws
