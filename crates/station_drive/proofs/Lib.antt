pub mod InOrder
pub mod Composed
pub mod Rows
pub mod Turns
pub mod WaitingLines
