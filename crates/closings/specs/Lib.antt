pub mod Things
pub mod Closed
pub mod Words
pub mod Auxiliaries
-- what crates above need of the crates below
pub use Rattle.control_table.specs as control_table
pub use Rattle.control_table.specs.layout as layout
pub use Rattle.control_table.specs.sci_telegram as sci_telegram
