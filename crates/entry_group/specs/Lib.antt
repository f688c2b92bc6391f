pub mod Groups
pub mod Reading
pub mod Files
pub mod Laws
