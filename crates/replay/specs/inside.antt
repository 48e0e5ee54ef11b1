pub mod Outsets
pub mod Runs
