-- Steps of a host.
use Rattle.std.proofs.Common.{◌≡◌, refl, ℕ, List, Bor}
use Rattle.simulator_spec.specs.Happens.{coming}
use Rattle.simulator_spec.specs.object_host.Behaviour.{Behaviour}
use Rattle.simulator_spec.specs.object_host.declared.input.Input.TheVariants as inputs
use Rattle.node_kinds.specs.inside.ControllerSteps.{SteppedState, stepped_at}
use Rattle.node_kinds.proofs.HostsBelow.{beating, given, host_step}

-- it doesn't matter where the bytes lie that it is lent
pub lent_is : {Object : Type 0} (does : Behaviour Object) (now : ℕ) (bytes : Bor (List ℕ)) (old : SteppedState Object) → stepped_at does now (inputs.Datagram bytes) old ≡ stepped_at does now (coming bytes.now) old
unfolding host_step given beating
lent_is does now bytes old = refl
