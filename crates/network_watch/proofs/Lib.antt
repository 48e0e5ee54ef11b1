pub mod Up
pub mod Told
pub mod WorkedWatches
