pub mod Listing
pub mod Read
