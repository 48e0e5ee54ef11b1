pub mod Interlocking
pub mod World
pub mod Runs
pub mod inside
-- what crates above need of the crates below
pub use Rattle.simulator_safety.specs as simulator_safety
pub use Rattle.ixl_state.specs.control_table as control_table
pub use Rattle.ixl_state.specs.ixl_spec as ixl_spec
pub use Rattle.ixl_state.specs as ixl_state
pub use Rattle.ixl_state.specs.ixl_table as ixl_table
pub use Rattle.ixl_state.specs.layout as layout
pub use Rattle.ixl_state.specs.rasta_core as rasta_core
pub use Rattle.ixl_state.specs.sci_telegram as sci_telegram
pub use Rattle.simulator_spec.specs.simulator_event as simulator_event
pub use Rattle.simulator_field.specs as simulator_field
pub use Rattle.simulator_spec.specs as simulator_spec
pub use Rattle.simulator_pair.specs as simulator_pair
