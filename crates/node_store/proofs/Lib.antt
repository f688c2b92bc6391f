-- the log: its GTID set, its entries taken from either end
pub mod Sets
pub mod Ends
-- the pairs: the one in front, and those without an entry
pub mod Commits
pub mod StrayPairs
-- the votes
pub mod Votes
-- all of it beside the log
pub mod Kept
