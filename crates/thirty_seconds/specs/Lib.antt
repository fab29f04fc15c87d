pub mod Multiple
pub mod Nearest
