-- the redo, and the engine for which it stands
pub mod Items
pub mod Points
pub mod Stands
pub mod Damages
pub mod Laws
-- what the calls promise
pub mod Groups
pub mod Mounted
pub mod Mounting
pub mod Faults
-- what the private functions do
pub mod Reading
pub mod Writing
