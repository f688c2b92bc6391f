-- what the calls promise
pub mod Conflicts
-- an engine without the log, and what holds of it
pub mod Engines
pub mod Laws
-- what the private functions do with the map and the list
pub mod Holders
pub mod Moves
