pub mod Border
pub mod Edges
