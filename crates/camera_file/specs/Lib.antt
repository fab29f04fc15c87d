pub mod Text
pub mod Reading
pub mod Asked
pub mod Rows
