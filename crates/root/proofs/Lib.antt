pub mod Step
pub mod Apart
pub mod Nearest
pub mod Whole
pub mod Signs
pub mod Middle
pub mod AtMost
pub mod Laws
