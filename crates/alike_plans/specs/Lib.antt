pub mod AlikePlans
