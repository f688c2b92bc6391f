-- keys, and a map's entries against the definitions' rows
pub mod Keys
pub mod ValueOrder
pub mod Entries
-- which change decides a row
pub mod RowAfter
pub mod Decided
pub mod Checked
pub mod OfLog
-- which place a name has
pub mod FirstPlaces
-- which table a name of a built ring has
pub mod Names
