pub mod World
pub mod ReplayedSession
pub mod Outset
pub mod Transcript
pub mod inside
pub mod Simulated
-- what crates above need of the crates below
pub use Rattle.replay_lines.specs as replay_lines
pub use Rattle.simulator.specs as simulator
pub use Rattle.station_check.specs as station_check
pub use Rattle.simulator.specs.control_table as control_table
pub use Rattle.simulator.specs.ixl_spec as ixl_spec
pub use Rattle.simulator.specs.ixl_table as ixl_table
pub use Rattle.simulator.specs.layout as layout
pub use Rattle.simulator.specs.rasta_core as rasta_core
pub use Rattle.simulator.specs.sci_telegram as sci_telegram
pub use Rattle.simulator.specs.simulator_event as simulator_event
pub use Rattle.simulator.specs.simulator_spec as simulator_spec
