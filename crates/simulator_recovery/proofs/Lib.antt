pub mod Words
pub mod Lemmas
