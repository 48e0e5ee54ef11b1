pub mod Calls
pub mod Disk
pub mod Keeping
