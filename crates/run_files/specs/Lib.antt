pub mod Parts
pub mod Written
pub mod Reads
pub mod inside
