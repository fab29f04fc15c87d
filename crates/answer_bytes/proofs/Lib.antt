pub mod Counted
pub mod Entries
pub mod Giving
pub mod Laws
