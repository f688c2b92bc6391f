pub mod Booleans
pub mod RingLaws
pub mod Twice
pub mod Positions
