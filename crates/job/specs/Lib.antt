pub mod Job
pub mod Rows
