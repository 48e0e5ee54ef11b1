-- What contracts inside the crate say. No promise names any of it.
pub mod Decoded
pub mod Spaced
