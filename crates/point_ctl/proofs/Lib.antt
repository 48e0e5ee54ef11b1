pub mod Once
pub mod Commanded
