pub mod Digests
pub mod Passes
