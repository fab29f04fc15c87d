pub mod Polynomial
pub mod ShortBrownConrady
pub mod Path
