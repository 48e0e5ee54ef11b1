pub mod Seen
pub mod Asked
pub mod Calls
pub mod Saving
pub mod Answers
pub mod Opened
pub mod Worked
pub mod Writing
