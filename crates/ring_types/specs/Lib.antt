pub mod Logs
pub mod Names
pub mod Rings
pub mod Rows
pub mod Sizes
pub mod Gtids
