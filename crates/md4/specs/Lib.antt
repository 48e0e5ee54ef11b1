pub mod Four
pub mod Md4
