pub mod Table
pub mod State
pub mod View
pub mod Operations
pub mod StepSoFar
pub mod Rules
pub mod Commands
pub mod Step
pub mod Due
pub mod First
pub mod EndDue
pub mod Refusals
pub mod OperationCauses
-- what crates above need of the crates below
pub use Rattle.closings.specs as closings
pub use Rattle.closings.specs.control_table as control_table
pub use Rattle.ixl_client.specs as ixl_client
pub use Rattle.rasta_core.specs as rasta_core
pub use Rattle.rasta_pdu.specs as rasta_pdu
pub use Rattle.closings.specs.control_table.bit_row as bit_row
pub use Rattle.closings.specs.layout as layout
pub use Rattle.closings.specs.sci_telegram as sci_telegram
