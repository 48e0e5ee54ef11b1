-- What a step of a controller of one kind is to its link.
use Rattle.std.specs.Prelude.{None, false, ℕ, ◌++◌, ◌≡◌}
use Rattle.object_host_laws.specs.World.{World, entering, step_of as world_step, step_of, stepped}
use Rattle.simulator_spec.specs.object_host.Behaviour.{Behaviour}
use Rattle.simulator_spec.specs.object_host.Host.{HostState}
use Rattle.simulator_spec.specs.object_host.Hosted.{IsNamedAs}
use Rattle.simulator_spec.specs.object_host.Made.{AreCallsFor, items_given, items_taken}
use Rattle.simulator_spec.specs.object_host.Step.{host_step}
use Rattle.simulator_spec.specs.object_host.declared.input.Input.{Input}
use Rattle.simulator_spec.specs.rasta_core.Clock.{settled}
use Rattle.simulator_spec.specs.rasta_core.Ends.{kept, reading_of}
use Rattle.simulator_spec.specs.rasta_core.State.{is_open}

pub record LawsOfHost {Object : Type 0} (does : Behaviour Object) : Type 0 where
  pub given : (input : Input) (connection : ℕ) (world : World Object)
      → (stepped does input connection world).ends.server.given ≡ kept (entering input connection world.ends) world.ends.server.given ++ items_given (reading_of world.ends.server.clock) (world_step does input world).calls world.ends.server.link
  pub names : (now : ℕ) (input : Input) (host : HostState Object) → IsNamedAs host (host_step does now input host).host
  pub taken : (input : Input) (connection : ℕ) (world : World Object)
      → (stepped does input connection world).ends.server.taken ≡ kept (entering input connection world.ends) world.ends.server.taken ++ items_taken (reading_of world.ends.server.clock) (world_step does input world).calls world.ends.server.link
  pub gives_none : (input : Input) (connection : ℕ) (world : World Object) → entering input connection world.ends ≡ None → is_open world.ends.server.link.phase ≡ false
      → (stepped does input connection world).ends.server.given ≡ world.ends.server.given
  pub takes_none : (input : Input) (connection : ℕ) (world : World Object) → entering input connection world.ends ≡ None → is_open world.ends.server.link.phase ≡ false
      → (stepped does input connection world).ends.server.taken ≡ world.ends.server.taken
  pub first : (now : ℕ) (input : Input) (host : HostState Object) → AreCallsFor input (host_step does now input host).calls
  pub link : (input : Input) (connection : ℕ) (world : World Object) → settled (reading_of world.ends.server.clock) world.ends.server.link ≡ world.ends.server.link
      → (stepped does input connection world).ends.server.link ≡ (step_of does input world).host.link
  pub outside : (input : Input) (connection : ℕ) (world : World Object) → entering input connection world.ends ≡ None → is_open world.ends.server.link.phase ≡ false
      → is_open (stepped does input connection world).ends.server.link.phase ≡ false
