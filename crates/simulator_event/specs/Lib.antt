pub mod Safe
pub mod Station
pub mod inside
-- Why an event isn't applied.
pub use Rattle.simulator_refused.specs.Refused
pub use Rattle.simulator_refused.specs.declared.refused
-- what crates above need of the crates below
pub use Rattle.ixl_spec.specs.layout as layout
