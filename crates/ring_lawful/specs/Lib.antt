pub mod EachStep
pub mod Lawful
