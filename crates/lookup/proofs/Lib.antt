pub mod Among
pub mod Steps
pub mod OnCell
pub mod Way
pub mod Rest
pub mod Extremes
pub mod Four
pub mod Laws
