pub mod Topology
pub mod Path
pub mod Sides
pub mod Table
pub mod Masks
pub mod AwaitedSections
pub mod Faults
pub mod inside
pub mod Messages
-- what crates above need of the crates below
pub use Rattle.bit_row.specs as bit_row
pub use Rattle.layout.specs as layout
pub use Rattle.sci_telegram.specs as sci_telegram
