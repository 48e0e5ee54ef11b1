pub mod Follows
pub mod Whole
pub mod Calls
pub mod HasLinks
pub mod Events
pub mod Nodes
pub mod TrueLinks
-- what crates above need of the crates below
pub use Rattle.object_host_laws.specs as object_host_laws
pub use Rattle.simulator_move_laws.specs as simulator_move_laws
pub use Rattle.simulator_spec.specs as simulator_spec
pub use Rattle.simulator_spec.specs.bit_row as bit_row
pub use Rattle.simulator_spec.specs.control_table as control_table
pub use Rattle.simulator_spec.specs.ixl_client as ixl_client
pub use Rattle.simulator_spec.specs.ixl_spec as ixl_spec
pub use Rattle.simulator_spec.specs.layout as layout
pub use Rattle.simulator_spec.specs.object_host as object_host
pub use Rattle.simulator_spec.specs.point_ctl as point_ctl
pub use Rattle.simulator_spec.specs.rasta_core as rasta_core
pub use Rattle.simulator_spec.specs.rasta_pdu as rasta_pdu
pub use Rattle.simulator_spec.specs.sci_telegram as sci_telegram
pub use Rattle.simulator_spec.specs.signal_ctl as signal_ctl
pub use Rattle.simulator_spec.specs.simulator_event as simulator_event
pub use Rattle.simulator_spec.specs.tds_ctl as tds_ctl
