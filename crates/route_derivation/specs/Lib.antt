pub mod Ways
pub mod Derived
pub mod Approach
pub mod Impossible
pub mod Lacking
pub mod Messages
pub mod inside
-- what crates above need of the crates below
pub use Rattle.control_table.specs as control_table
