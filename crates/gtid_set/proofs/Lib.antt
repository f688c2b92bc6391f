-- intervals
pub mod Begun
pub mod Entries
pub mod Growing
pub mod RangeMembers
-- servers
pub mod ServerPlaces
pub mod ServerMembers
pub mod Looking
-- laws
pub mod Has
pub mod Greatest
pub mod OneSet
pub mod Made
-- bytes and texts
pub mod Numbers
pub mod BytesAgain
pub mod TextAgain
