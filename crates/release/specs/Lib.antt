pub mod Passage
pub mod Approach
