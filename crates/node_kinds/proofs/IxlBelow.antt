-- Definitions of the layers below that proofs here unfold.
unfoldable pub use Rattle.simulator_spec.specs.rasta_core.Calls.{created}
unfoldable pub use Rattle.simulator_spec.specs.ixl_client.Client.{new_client}
unfoldable pub use Rattle.simulator_spec.specs.First.{new_ixl}
unfoldable pub use Rattle.simulator_spec.specs.ixl_spec.Commands.{refusal}
unfoldable pub use Rattle.simulator_spec.specs.ixl_spec.Step.{all_clocked, reply}
unfoldable pub use Rattle.simulator_spec.specs.ixl_spec.Table.{at}
