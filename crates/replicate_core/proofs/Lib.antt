-- ---- what a member does with entries
pub mod Entries
pub mod Matching
pub mod Accepting
pub mod Stepping
-- ---- what a leader makes of a reply
pub mod Replying
-- ---- a leader's beat
pub mod Batches
pub mod Beating
