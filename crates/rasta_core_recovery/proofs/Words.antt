pub mod Basics
pub mod Links
pub mod Recovery
