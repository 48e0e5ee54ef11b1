pub mod Lines
pub mod State
pub mod Abouts
pub mod Pages
pub mod Seen
pub mod CommandLines
pub mod Asked
pub mod Worked
pub mod ShownLines
pub mod Answers
pub mod InTheWay
pub mod StandingOrders
pub mod StandingLaws
pub mod Inside
pub mod Boards
-- what crates above need of the crates below
pub use Rattle.node_lines.specs as node_lines
pub use Rattle.run_numbers.specs as run_numbers
