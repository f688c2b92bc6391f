-- what a set is, what its changes mean, what holds of it
pub mod Canonical
pub mod Members
pub mod Next
pub mod Laws
-- its bytes and its text
pub mod Bytes
pub mod Texts
-- what the private functions do to its lists, and read
pub mod Ranges
pub mod Servers
pub mod Reading
pub mod Pieces
