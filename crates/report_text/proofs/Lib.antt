pub mod Chained
pub mod Declared
