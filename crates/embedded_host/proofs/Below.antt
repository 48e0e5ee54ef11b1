-- Definitions of the layers below that proofs here unfold.
unfoldable pub use Rattle.rasta_core.specs.Calls.{created}
unfoldable pub use Rattle.rasta_core.specs.Outbox.{posted}
unfoldable pub use Rattle.object_host.specs.Host.{keeping}
unfoldable pub use Rattle.object_host.specs.Hosted.{new_host}
unfoldable pub use Rattle.object_host.specs.Step.{beating, given, host_step}
