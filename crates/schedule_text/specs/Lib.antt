pub mod Cutting
pub mod Reading
pub mod Numbers
pub mod Values
pub mod Changes
pub mod Lines
pub mod Schedules
