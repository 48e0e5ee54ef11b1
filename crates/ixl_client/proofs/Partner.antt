-- A client speaks with one controller for good.
use Rattle.std.proofs.Common.{◌≡◌, ℕ, Bool, true, false, if◌then◌else◌, List, [], ◌∷◌, refl, ◌∙◌}
use Rattle.std.specs.Prelude.{◌&&◌}
use Rattle.sci_telegram.specs.declared.message.Initialisation.TheVariants.{VersionCheck}
use Rattle.rasta_core.specs.State.{is_open, is_up}
use Rattle.ixl_client.specs.Client.{ClientState, is_outside}
use Rattle.ixl_client.specs.ClientSoFar.{ClientSoFar, calling}
use Rattle.ixl_client.specs.Step.{acting, acting_all, at_stage, clocked, commanding, fallen, hearing, rising, saying, ticking}
use Rattle.ixl_client.specs.declared.command.Command.{Command}
use Rattle.ixl_client.specs.declared.stage.Stage.TheVariants as stage
use Rattle.ixl_client.proofs.Acts.{acting_peer, posting_peer}

fallen_peer : (client : ClientState) → (fallen client).peer ≡ client.peer
unfolding fallen
fallen_peer client = cases (is_up client.link.phase) where
  cases : (b : Bool) → (if b then client else record client { stage = stage.Outside }).peer ≡ client.peer
  cases true = refl
  cases false = refl

pub clocked_peer : (now : ℕ) (client : ClientState) → (clocked now client).peer ≡ client.peer
unfolding clocked
clocked_peer now client = fallen_peer _

acting_all_peer : (now : ℕ) (items : List (List ℕ)) (a : ClientSoFar) → (acting_all now items a).client.peer ≡ a.client.peer
unfolding acting_all
acting_all_peer now [] a = refl
acting_all_peer now (item ∷ others) a = cases (is_open a.client.link.phase) (acting_all_peer now others (acting now item a) ∙ acting_peer now item a) where
  cases : (b : Bool) → (acting_all now others (acting now item a)).client.peer ≡ a.client.peer → (if b then acting_all now others (acting now item a) else a).client.peer ≡ a.client.peer
  cases true others_keep = others_keep
  cases false others_keep = refl

rising_peer : (now : ℕ) (a : ClientSoFar) → (rising now a).client.peer ≡ a.client.peer
unfolding rising
rising_peer now a = cases (is_outside a.client.stage && is_up a.client.link.phase) where
  cases : (b : Bool) → (if b then at_stage stage.AwaitsAnswer (saying now (VersionCheck a.client.peer.version) a) else a).client.peer ≡ a.client.peer
  cases true = posting_peer now _ a
  cases false = refl

pub hearing_peer : (now : ℕ) (bytes : List ℕ) (a : ClientSoFar) → (hearing now bytes a).client.peer ≡ a.client.peer
unfolding hearing calling
hearing_peer now bytes a = fallen_peer _ ∙ acting_all_peer now _ _ ∙ rising_peer now _

pub commanding_peer : (now : ℕ) (command : Command) (a : ClientSoFar) → (commanding now command a).client.peer ≡ a.client.peer
unfolding commanding
commanding_peer now command a = fallen_peer _ ∙ posting_peer now _ a

pub ticking_peer : (now : ℕ) (a : ClientSoFar) → (ticking now a).client.peer ≡ a.client.peer
unfolding ticking calling
ticking_peer now a = fallen_peer _
