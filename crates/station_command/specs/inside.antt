-- What contracts inside the crate say. No promise names any of it.
pub mod Answers
pub mod Entries
pub mod Matches
