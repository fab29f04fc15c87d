pub mod Mended
pub mod Kept
pub mod Fed
pub mod Written
pub mod Parts
pub mod Texts
