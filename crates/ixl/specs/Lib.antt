pub mod inside
pub mod Interlocking
