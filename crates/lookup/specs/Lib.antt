pub mod Lookup
pub mod Asked
pub mod Rows
pub mod Owed
pub mod Enclosed
