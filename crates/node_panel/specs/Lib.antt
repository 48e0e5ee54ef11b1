pub mod Lines
pub mod ClosedHeard
pub mod Heard
pub mod Noted
pub mod Turns
pub mod Panels
