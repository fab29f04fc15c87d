pub mod Judging
pub mod Answers
pub mod Short
pub mod Reading
pub mod Round
pub mod Laws
