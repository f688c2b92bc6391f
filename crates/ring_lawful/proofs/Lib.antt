-- ---- a node by itself: its log, its pairs, its engine
pub mod Keeps
pub mod Along
pub mod Pairs
pub mod Engine
pub mod EngineSteps
pub mod EngineBoth
pub mod EngineElections
pub mod EngineOwn
pub mod EngineAppend
pub mod EngineDispatch
pub mod Prepared
-- ---- its limits
pub mod Payloads
pub mod Sized
pub mod SizedSteps
pub mod SizedElections
pub mod SizedOwn
pub mod SizedAppends
pub mod Sound
-- ---- its soft part
pub mod Leads
pub mod LeadsElections
pub mod LeadsOwn
pub mod LeadsHandingOver
pub mod LeadsRules
pub mod Lawful
-- ---- its order, and what is possible
pub mod Chains
pub mod Steady
pub mod SteadyTaking
pub mod SteadyAppend
pub mod SteadyPeers
pub mod SteadyElections
pub mod SteadyRules
pub mod Possible
-- ---- each step
pub mod Parts
pub mod EachStep
pub mod Sends
pub mod SendsAppends
pub mod SendsElections
pub mod SendsHandingOver
pub mod SendsRelays
pub mod StepSends
pub mod Recovery
-- ---- each run
pub mod Carry
pub mod EveryRun
-- ---- valid logs
pub mod RowKeys
pub mod Locks
pub mod ValidLogs
pub mod Numbers
pub mod Growing
pub mod GrowingElections
pub mod GrowingEntries
pub mod GrowingDispatch
pub mod Books
pub mod Chosen
