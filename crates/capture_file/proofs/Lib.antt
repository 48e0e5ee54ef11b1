pub mod Sums
pub mod Packets
pub mod Files
