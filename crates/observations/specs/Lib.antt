pub mod Observations
