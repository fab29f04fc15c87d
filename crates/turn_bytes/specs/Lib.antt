pub mod Calls
pub mod Turn
