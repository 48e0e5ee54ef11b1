pub mod Whole
pub mod Said
pub mod Came
