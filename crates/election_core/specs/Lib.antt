pub mod Bids
pub mod Verdicts
