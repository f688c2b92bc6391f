pub mod Columns
pub mod Documents
pub mod Faults
pub mod Keys
pub mod Values
