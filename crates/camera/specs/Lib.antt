pub mod Parts
pub mod Camera
pub mod Numbers
pub mod Rows
