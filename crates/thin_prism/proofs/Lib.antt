pub mod Fits
pub mod Zero
pub mod Laws
