-- what contracts see of the tables
pub mod Filled
-- the change that decides a row, and the law on it
pub mod LastChange
pub mod Laws
-- what a table's map keeps
pub mod Keyed
