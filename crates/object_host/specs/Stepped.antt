-- What a controller is once the datagrams of its step, which it lends, aren't looked at any more.
use Rattle.std.specs.Prelude.{◌≡◌, ℕ, ⊤}
use Rattle.std.specs.Borrow.{follows_so, Fml, MutBor, RattleType}
use mathlib.Core.Option.{none}
use Rattle.rasta_core.specs.Calls.{IsAt}
use Rattle.rasta_core.specs.Outbox.{posted}
use Rattle.object_host.specs.Behaviour.{Behaviour}
use Rattle.object_host.specs.Hosted.{HostedState, empty_outbox}
use Rattle.object_host.specs.Step.{host_step}
use Rattle.object_host.specs.contracts.hosted.Hosted.{the_row}
use Rattle.object_host.specs.declared.controller.Controller as controller
use Rattle.object_host.specs.declared.input.Input.{Input}

-- It made a step with this input at this reading of its clock.
pub record HasStepped {Object : Type 0} (does : Behaviour Object) (now : ℕ) (input : Input) (old new : HostedState Object) : Type 0 where
  pub host : new.host ≡ (host_step does now input old.host).host
  -- its link has this clock, and the identity that it had
  pub kept : IsAt now old.host.link new.host.link
  -- its outbox has the datagrams of this step alone
  pub posted : new.outbox ≡ posted old.host.link.identity.key (host_step does now input old.host).pdus empty_outbox

abbrev pub EndsStepped : (C : RattleType) → controller.Ghosts C.Denot → MutBor (HostedState C.Denot) → ℕ → Input → Fml
EndsStepped C has hosted now input =
    follows_so (the_row C has) (the_row C has) hosted.ghost_name none (λ _ _. ⊤) (HasStepped has.behaviour now input hosted.now)
