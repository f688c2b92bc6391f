-- bodies
pub mod Digits
pub mod Spellings
-- events
pub mod OneEvent
pub mod WrittenAndRead
