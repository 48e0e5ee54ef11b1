pub mod Controllers
pub mod Openings
pub mod Counted
pub mod Kept
pub mod Interlockings
pub mod Made
pub mod MadeInterlocking
pub mod Same
pub mod Processes
pub mod inside
-- what crates above need of the crates below
pub use Rattle.node_drive.specs as node_drive
pub use Rattle.simulator_spec.specs as simulator_spec
pub use Rattle.ixl_state.specs.ixl_table as ixl_table
pub use Rattle.run_numbers.specs as run_numbers
