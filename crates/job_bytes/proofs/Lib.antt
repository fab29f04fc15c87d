pub mod Reading
pub mod Summing
pub mod Placing
pub mod Beginning
pub mod Back
pub mod Caught
pub mod Laws
