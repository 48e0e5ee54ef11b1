pub mod Texts
pub mod Files
pub mod Course
