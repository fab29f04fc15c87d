pub mod Build
pub mod Laws
pub mod Numbers
pub mod Turning
