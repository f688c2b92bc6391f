pub mod Between
pub mod Bidding
pub mod Electing
pub mod Replying
pub mod Judging
