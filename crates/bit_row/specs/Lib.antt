pub mod Places
pub mod Bits
