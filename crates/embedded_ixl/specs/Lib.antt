pub mod Calls
pub mod Causes
pub mod Display
pub mod Embedded
pub mod Inputs
pub mod Leaving
pub mod Made
pub mod Places
pub mod Worked
-- what crates above need of the crates below
pub use Rattle.ixl_state.specs as ixl_state
pub use Rattle.ixl.specs as ixl
