pub mod Commands
pub mod CommandWords
pub mod Inputs
pub mod Line
pub mod Requests
pub mod Failures
pub mod inside
