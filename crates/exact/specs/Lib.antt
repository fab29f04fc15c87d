pub mod Determined
pub mod F64
pub mod Alike
pub mod Fraction
pub mod Rounding
pub mod Operations
