pub mod Laws
pub mod Size
