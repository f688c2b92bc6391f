pub mod Checksums
pub mod Events
pub mod Forms
pub mod Fields
pub mod Reading
pub mod Laws
