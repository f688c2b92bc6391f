-- what contracts see of a store
pub mod Stores
-- what a store keeps beside its log, and what its private functions do
pub mod Kept
