pub mod Text
pub mod Moved
