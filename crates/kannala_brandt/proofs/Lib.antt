pub mod Fits
pub mod Laws
pub mod Updates
pub mod Written
pub mod Bent
