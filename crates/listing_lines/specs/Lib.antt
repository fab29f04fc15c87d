pub mod Line
pub mod Grown
pub mod Read
pub mod Numeral
