pub mod Orders
pub mod Reports
pub mod Commands
pub mod Auxiliaries
pub mod Known
pub mod ReadAgain
pub mod Worked
-- what crates above need of the crates below
pub use Rattle.closings.specs as closings
pub use Rattle.replay_lines.specs.ixl_spec as ixl_spec
pub use Rattle.replay_lines.specs as replay_lines
pub use Rattle.replay_words.specs as replay_words
pub use Rattle.simulator_event.specs as simulator_event
pub use Rattle.replay_lines.specs.ixl_spec.control_table as control_table
pub use Rattle.replay_lines.specs.ixl_spec.layout as layout
pub use Rattle.replay_lines.specs.ixl_spec.rasta_pdu as rasta_pdu
pub use Rattle.replay_lines.specs.ixl_spec.sci_telegram as sci_telegram
