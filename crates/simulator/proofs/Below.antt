-- Definitions of the layers below that proofs here unfold.
unfoldable pub use Rattle.simulator_spec.specs.object_host.Step.{beating, given, host_step}
unfoldable pub use Rattle.simulator_field.specs.Field.{world_of}
unfoldable pub use Rattle.simulator_spec.specs.First.{first_world, world_at}
unfoldable pub use Rattle.simulator_spec.specs.Happens.{answered, detector_stepped, happens, interlocking_stepped, passed, point_stepped, reply_to, signal_stepped, stepped_at}
unfoldable pub use Rattle.simulator_spec.specs.Refusals.{refusal, refusal_of_time}
unfoldable pub use Rattle.ixl_state.specs.rasta_core.Calls.{created}
unfoldable pub use Rattle.ixl_state.specs.ixl_client.Client.{new_client}
unfoldable pub use Rattle.simulator_spec.specs.First.{new_ixl}
unfoldable pub use Rattle.simulator_spec.specs.Interlocking.{held_of, sending_all, sending_one}
