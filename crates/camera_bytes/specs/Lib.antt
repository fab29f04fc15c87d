pub mod Reading
pub mod Putting
