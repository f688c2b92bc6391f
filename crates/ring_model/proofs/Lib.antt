-- ---- lists, numbers, quorums
pub mod Lists
pub mod GreaterOf
pub mod Quorums
pub mod Needs
-- ---- the history, and what a single world says
pub mod Invariant
pub mod Growth
pub mod Casting
pub mod Cover
-- ---- each action
pub mod Following
pub mod OwnEntry
pub mod Leading
pub mod Sending
pub mod Moves
-- ---- the actions of a step
pub mod Paths
pub mod HeldElections
pub mod Matching
pub mod Winning
-- ---- a turn of a node
pub mod Turns
pub mod Stepping
-- ---- each rule of the step
pub mod Advance
pub mod Plain
pub mod Elect
pub mod OnRequest
pub mod OnReply
pub mod TakingIn
pub mod OnAppend
pub mod NeverTorn
pub mod OnAnswer
pub mod Relay
pub mod Beat
pub mod Writes
pub mod Transfers
pub mod Dispatch
-- ---- what clients were told
pub mod TellingLeader
pub mod TellingElections
pub mod TellingEntries
pub mod Telling
pub mod Told
-- ---- events and runs
pub mod Carried
pub mod Restarts
pub mod Events
pub mod FirstWorld
pub mod Runs
-- ---- three computed values
pub mod Extremes
