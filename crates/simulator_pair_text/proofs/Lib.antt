pub mod EventAnswers
pub mod Judged
pub mod Names
pub mod Rounds
pub mod Transcripts
pub mod CommandLineRead
