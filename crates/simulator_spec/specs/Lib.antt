pub mod State
pub mod Nodes
pub mod First
pub mod Controllers
pub mod Interlocking
pub mod Network
pub mod Refusals
pub mod Happens
pub mod Run
pub mod TrueClocks
pub mod Seen
pub mod Picture
pub mod Links
pub mod Tried
pub mod Flow
-- what crates above need of the crates below
pub use Rattle.ixl_spec.specs as ixl_spec
pub use Rattle.object_host.specs as object_host
pub use Rattle.point_ctl.specs as point_ctl
pub use Rattle.signal_ctl.specs as signal_ctl
pub use Rattle.simulator_event.specs as simulator_event
pub use Rattle.tds_ctl.specs as tds_ctl
pub use Rattle.ixl_spec.specs.bit_row as bit_row
pub use Rattle.ixl_spec.specs.control_table as control_table
pub use Rattle.ixl_spec.specs.ixl_client as ixl_client
pub use Rattle.ixl_spec.specs.layout as layout
pub use Rattle.ixl_spec.specs.rasta_core as rasta_core
pub use Rattle.ixl_spec.specs.rasta_pdu as rasta_pdu
pub use Rattle.ixl_spec.specs.sci_telegram as sci_telegram
