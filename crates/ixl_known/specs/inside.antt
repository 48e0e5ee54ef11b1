pub mod Alike
pub mod Rows
pub mod Turns
