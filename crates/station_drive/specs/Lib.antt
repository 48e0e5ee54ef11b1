pub mod Log
pub mod Told
pub mod Doings
pub mod Rounds
pub mod Drives
pub mod Engines
pub mod Inside
-- what crates above need of the crates below
pub use Rattle.simulator_event.specs as simulator_event
