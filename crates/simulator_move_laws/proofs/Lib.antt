pub mod Links
pub mod Controllers
pub mod Interlocking
