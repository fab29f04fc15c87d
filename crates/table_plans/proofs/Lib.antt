pub mod Corners
pub mod Laws
pub mod Numbers
pub mod Picked
pub mod Sound
