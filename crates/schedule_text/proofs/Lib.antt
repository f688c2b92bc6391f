pub mod Cuts
pub mod Digits
pub mod Texts
pub mod Fronts
pub mod Events
pub mod Utf8
