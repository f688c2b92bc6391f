-- ---- the order of work
pub mod Binding
pub mod Answering
-- ---- the run
pub mod Ways
pub mod Runs
-- ---- what it comes to
pub mod Printing
pub mod Exact
pub mod Causes
-- ---- texts
pub mod PutMore
