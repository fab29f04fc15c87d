pub mod BrownConrady
pub mod Formula
pub mod AsWritten
