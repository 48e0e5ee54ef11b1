pub mod Known
pub mod Counting
pub mod Ends
pub mod Nones
pub mod Steps
pub mod Out
pub mod Kept
pub mod Moves
