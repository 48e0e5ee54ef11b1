pub mod Table
pub mod Locks
pub mod inside
