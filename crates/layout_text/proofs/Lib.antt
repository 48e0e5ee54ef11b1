pub mod Loops
pub mod ValueLemmas
pub mod TextLemmas
