pub mod Answers
pub mod Flow
pub mod Line
pub mod Text
pub mod Told
pub mod Transcript
pub mod CommandLine
