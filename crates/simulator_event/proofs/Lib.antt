pub mod Loops
pub mod Safety
