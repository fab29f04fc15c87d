pub mod Series
pub mod Whole
pub mod Arctangent
pub mod Tangent
pub mod Owed
