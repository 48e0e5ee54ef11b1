pub mod Places
pub mod Owed
pub mod Told
