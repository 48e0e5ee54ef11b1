pub mod State
pub use Rattle.ixl_spec.specs.First
pub mod inside
-- what crates above need of the crates below
pub use Rattle.ixl_known.specs as ixl_known
pub use Rattle.ixl_spec.specs as ixl_spec
pub use Rattle.ixl_table.specs as ixl_table
pub use Rattle.release.specs as release
pub use Rattle.ixl_spec.specs.bit_row as bit_row
pub use Rattle.ixl_spec.specs.control_table as control_table
pub use Rattle.ixl_spec.specs.ixl_client as ixl_client
pub use Rattle.ixl_spec.specs.layout as layout
pub use Rattle.ixl_spec.specs.rasta_core as rasta_core
pub use Rattle.ixl_spec.specs.rasta_pdu as rasta_pdu
pub use Rattle.ixl_spec.specs.sci_telegram as sci_telegram
