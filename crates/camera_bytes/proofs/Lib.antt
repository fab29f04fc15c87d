pub mod Counted
pub mod Patterns
pub mod Laws
