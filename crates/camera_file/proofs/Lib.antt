pub mod Bytes
pub mod Models
pub mod Stages
pub mod Whole
pub mod Laws
