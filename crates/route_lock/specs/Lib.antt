pub mod Locks
pub mod Rows
