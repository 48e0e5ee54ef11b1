pub mod Calls
pub mod Causes
pub mod Embedded
pub mod Inputs
pub mod Leaving
pub mod Orders
pub mod Worked
