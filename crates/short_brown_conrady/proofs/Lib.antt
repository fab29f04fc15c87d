pub mod Terms
pub mod Full
pub mod Fits
pub mod Path
pub mod Laws
