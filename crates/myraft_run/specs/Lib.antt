pub mod Spans
pub mod Words
pub mod Stops
pub mod Inputs
pub mod Replays
pub mod Command
pub mod Parts
