pub mod World
pub mod Acted
pub mod Signal
pub mod Point
