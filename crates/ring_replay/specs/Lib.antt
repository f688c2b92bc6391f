pub mod Replays
pub mod Steps
pub mod Fit
pub mod Stretches
