pub mod Moments
pub mod Entries
pub mod FileStates
pub mod Agreement
pub mod Working
pub mod Rereading
