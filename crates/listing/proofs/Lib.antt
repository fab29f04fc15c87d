pub mod Grid
pub mod Each
pub mod Rows
pub mod Cut
pub mod Fair
pub mod Laws
