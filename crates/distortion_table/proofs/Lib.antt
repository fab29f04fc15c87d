pub mod Calls
pub mod ByParts
pub mod Laws
pub mod Parts
pub mod Taking
