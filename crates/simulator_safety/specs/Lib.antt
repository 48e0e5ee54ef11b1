pub mod At
pub mod Calls
pub mod Seen
pub mod Represents
pub mod Change
pub mod Events
pub mod InFlight
pub mod Reached
