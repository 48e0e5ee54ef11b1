-- Definitions of the link that proofs here unfold.
unfoldable pub use Rattle.rasta_core.specs.Calls.{created}
unfoldable pub use Rattle.rasta_core.specs.Clock.{deadline, alive_until}
unfoldable pub use Rattle.rasta_core.specs.Ends.{outcome, end_after, end_later, end_restarted}
unfoldable pub use Rattle.rasta_core.specs.Run.{later, lost, restarted}
