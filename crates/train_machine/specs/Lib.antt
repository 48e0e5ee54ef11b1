-- The machine of a station with trains.
pub mod Lists
pub mod Track
pub mod Train
pub mod Section
pub mod Route
pub mod Machine
pub mod Moves
pub mod Run
pub mod Promise
pub mod Invariant
pub mod Stations
pub mod Wrong
pub mod Runs
