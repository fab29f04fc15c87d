pub mod ThinPrism
pub mod Formula
