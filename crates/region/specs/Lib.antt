pub mod Region
pub mod Size
pub mod Fits
