pub mod Words
pub mod Sayings
pub mod Report
