pub mod Added
pub mod Blanks
pub mod ValueLemmas
