pub mod Pair
pub mod Events
pub mod Lamp
pub mod Bag
pub mod Theorem
pub mod Worked
pub mod Runs
pub mod inside
-- why an event isn't applied
pub use Rattle.simulator_refused.specs.Refused
pub use Rattle.simulator_refused.specs.declared.refused
