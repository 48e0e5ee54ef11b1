-- Definitions of the layers below that proofs here unfold.
unfoldable pub use Rattle.ixl_state.specs.rasta_core.Calls.{created}
unfoldable pub use Rattle.ixl_state.specs.ixl_client.Client.{new_client}
unfoldable pub use Rattle.ixl_state.specs.First.{new_ixl}
unfoldable pub use Rattle.ixl_state.specs.ixl_spec.Step.{reply}
unfoldable pub use Rattle.ixl_state.specs.ixl_spec.Table.{at}
