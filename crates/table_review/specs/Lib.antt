pub mod Names
pub mod Block
pub mod SlowKey
pub mod Topology
pub mod Asked
pub mod Places
pub mod Completed
pub mod Messages
