-- Steps of a host with bytes that it is lent.
use Rattle.std.proofs.Common.{◌≡◌, refl, ℕ, List, Bor}
use Rattle.object_host.specs.Behaviour.{Behaviour}
use Rattle.object_host.specs.declared.input.Input.TheVariants as inputs
use Rattle.embedded_host.specs.Calls.{coming}
use Rattle.embedded_host.specs.Embedded.{EmbeddedState, stepped}
use Rattle.embedded_host.proofs.Below.{beating, given, host_step}

-- it doesn't matter where the bytes lie
pub lent_is : {Object : Type 0} (does : Behaviour Object) (now : ℕ) (bytes : Bor (List ℕ)) (it : EmbeddedState Object) → stepped does now (inputs.Datagram bytes) it ≡ stepped does now (coming bytes.now) it
unfolding host_step given beating
lent_is does now bytes it = refl
