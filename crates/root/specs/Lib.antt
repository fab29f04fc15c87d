pub mod Root
pub mod Digits
pub mod Limit
