pub mod Budget
pub mod Waiting
pub mod Calls
pub mod Seen
pub mod Kinds
pub mod Same
pub mod Rounds
pub mod Drives
pub mod Inside
pub mod Beginning
pub mod Lives
pub mod Ages
pub mod Worked
-- what crates above need of the crates below
pub use Rattle.node_lines.specs as node_lines
pub use Rattle.node_lines.specs.layout as layout
pub use Rattle.node_lines.specs.replay_lines as replay_lines
pub use Rattle.node_lines.specs.replay_words as replay_words
pub use Rattle.node_lines.specs.sci_telegram as sci_telegram
pub use Rattle.node_lines.specs.simulator_event as simulator_event
