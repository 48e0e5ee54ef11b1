pub mod Verdicts
pub mod EventAnswers
pub mod Noted
pub mod Rounds
pub mod Transcripts
pub mod Safety
pub mod Outsets
