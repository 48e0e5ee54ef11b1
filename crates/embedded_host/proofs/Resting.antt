-- One that has just started has its equipment rest.
use Rattle.std.proofs.Common.{◌≡◌, ℕ, List, true}
use Rattle.rasta_core.specs.Clock.{alive_until}
use Rattle.rasta_core.specs.identity.Identity.{Identity}
use Rattle.object_host.specs.Behaviour.{Behaviour}
use Rattle.object_host.specs.Lawful.{IsLawful}
use Rattle.embedded_host.proofs.Below.{created, keeping, new_host}

pub rests : {Object : Type 0} (does : Behaviour Object) → IsLawful does → (identity : Identity) (own_name peer_name : List ℕ) (first_sequence_number now version reading : ℕ) (object : Object)
    → does.is_restrictive reading (new_host does identity own_name peer_name first_sequence_number now object version).object ≡ true
unfolding new_host keeping
rests does lawful identity own_name peer_name first_sequence_number now version reading object =
    lawful.idle_is_restrictive reading _ (lawful.keep_idles (alive_until (created identity first_sequence_number now)) (does.after_loss object) (lawful.loss_idles object))
