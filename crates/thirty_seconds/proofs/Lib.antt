pub mod Close
pub mod Shifted
pub mod Ranges
pub mod Answers
pub mod Multiples
pub mod Rounded
pub mod Laws
