pub mod Kept
pub mod DetectorHeard
