pub mod Reading
pub mod Word
pub mod OneField
pub mod Filling
pub mod Written
pub mod Laws
