pub mod Basics
pub mod Links
pub mod Controllers
pub mod Interlockings
pub mod Stations
pub mod Machine
pub mod Recovery
