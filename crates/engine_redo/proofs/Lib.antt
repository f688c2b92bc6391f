-- bytes
pub mod PointBytes
pub mod Items
pub mod Opids
pub mod ItemTexts
-- a redo and the laws
pub mod Redoing
pub mod OneEngine
-- calls
pub mod Acting
pub mod Testing
pub mod ReadItems
pub mod Keeping
