pub mod Bodies
pub mod Tables
pub mod Rows
pub mod Reading
pub mod Txns
pub mod Writing
pub mod Laws
