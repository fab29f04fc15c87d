pub mod Bytes
pub mod Parts
pub mod Digits
pub mod Numbers
pub mod Laws
