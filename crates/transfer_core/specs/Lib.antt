pub mod Halves
pub mod Handing
pub mod Polls
