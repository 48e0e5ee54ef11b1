pub mod Kept
pub mod Startedness
