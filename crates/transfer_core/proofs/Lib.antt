-- a mock election at its target
pub mod Polling
-- the two rules that other crates share
pub mod Halves
