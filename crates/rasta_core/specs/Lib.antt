-- Invariants, for the proofs: what is believed of runs is in rasta_core_spec.
pub mod EndFlow
pub mod Order
pub mod LinkAndFlow
pub mod FirstPdus
pub mod Carried
pub mod TimedEnds
pub mod Timely
pub mod Moves
pub mod Invariant
pub mod Ordered
pub mod EachLink
-- Many links over one network.
pub mod Links
pub mod Nodes
-- A worked list of events.
pub mod Worked
-- What crates above need of two ends and their network.
pub use Rattle.rasta_core_spec.specs.Parameters
pub use Rattle.rasta_core_spec.specs.Sequence
pub use Rattle.rasta_core_spec.specs.State
pub use Rattle.rasta_core_spec.specs.Clock
pub use Rattle.rasta_core_spec.specs.PdusHandedOut
pub use Rattle.rasta_core_spec.specs.Establishment
pub use Rattle.rasta_core_spec.specs.Receipt
pub use Rattle.rasta_core_spec.specs.Verdicts
pub use Rattle.rasta_core_spec.specs.Calls
pub use Rattle.rasta_core_spec.specs.Outbox
pub use Rattle.rasta_core_spec.specs.Each
pub use Rattle.rasta_core_spec.specs.Names
pub use Rattle.rasta_core_spec.specs.Ends
pub use Rattle.rasta_core_spec.specs.Bag
pub use Rattle.rasta_core_spec.specs.Run
pub use Rattle.rasta_core_spec.specs.Events
pub use Rattle.rasta_core_spec.specs.Sentences
pub use Rattle.rasta_core_spec.specs.Safe
pub use Rattle.rasta_core_spec.specs.Given
pub use Rattle.rasta_core_spec.specs.Newest
pub use Rattle.rasta_core_spec.specs.Steps
pub use Rattle.rasta_core_spec.specs.TrueClocks
pub use Rattle.rasta_core_spec.specs.header
pub use Rattle.rasta_core_spec.specs.identity
pub use Rattle.rasta_core_spec.specs.reason
pub use Rattle.rasta_core_spec.specs.verdict
pub use Rattle.rasta_core_spec.specs.fault
pub use Rattle.rasta_core_spec.specs.phase
pub use Rattle.rasta_core_spec.specs.time
pub use Rattle.rasta_core_spec.specs.window
