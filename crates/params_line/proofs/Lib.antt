pub mod Params
pub mod Written
pub mod Putting
pub mod Laws
