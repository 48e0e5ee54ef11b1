pub mod Places
pub mod inside
