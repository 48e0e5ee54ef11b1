pub mod Names
pub mod State
pub mod Events
pub mod Happens
pub mod Promise
pub mod inside
