pub mod Bodies
pub mod ControlEvents
pub mod ControlLaws
