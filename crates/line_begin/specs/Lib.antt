pub mod Names
pub mod NamedLine
pub mod Asked
pub mod Files
pub mod Course
