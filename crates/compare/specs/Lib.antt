pub mod Report
pub mod Judged
pub mod Told
