pub mod Names
pub mod Given
pub mod Events
pub mod Outset
pub mod Line
pub mod Scripted
pub mod Text
pub mod Written
pub mod inside
pub mod Answers
pub mod AnswerRead
pub mod Replay
pub mod Script
pub mod Session
pub mod ReadAgain
-- what crates above need of the crate below
pub use Rattle.ixl_spec.specs as ixl_spec
