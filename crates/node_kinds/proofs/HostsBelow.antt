-- Definitions of the layers below that proofs here unfold.
unfoldable pub use Rattle.simulator_spec.specs.rasta_core.Calls.{created}
unfoldable pub use Rattle.simulator_spec.specs.rasta_core.Outbox.{posted}
unfoldable pub use Rattle.simulator_spec.specs.object_host.Host.{keeping}
unfoldable pub use Rattle.simulator_spec.specs.object_host.Hosted.{new_host}
unfoldable pub use Rattle.simulator_spec.specs.object_host.Step.{beating, given, host_step}
