-- Acting on an item, course by course: at which stage it can come to each.
use Rattle.std.proofs.Common.{◌≡◌, ℕ, ◌<◌, true, List, ◌∷◌, [], ◌++◌, length, refl, ap, subst, ◌∙◌}
use Rattle.std.specs.Prelude.{◌&&◌, ◌==◌, Option, Some, None, Result, Ok, Err}
use Rattle.std.specs.Str.{bytes_eq}
use Rattle.std.proofs.lemmas.Bool.{eqb-true}
use Rattle.std.proofs.lemmas.List.Quantifiers.{position-Some}
use Rattle.ixl_state.specs.sci_telegram.TelegramRead.{reading}
use Rattle.ixl_state.specs.sci_telegram.declared.fault.SciFault.{SciFault}
use Rattle.ixl_state.specs.sci_telegram.declared.message.Initialisation.{Initialisation}
use Rattle.ixl_state.specs.sci_telegram.declared.message.Initialisation.TheVariants.{InitialisationRequest, StartInitialisation, InitialisationCompleted, VersionCheck, VersionAnswer}
use Rattle.ixl_state.specs.sci_telegram.declared.message.Message.{Message}
use Rattle.ixl_state.specs.sci_telegram.declared.message.Message.TheVariants as message
use Rattle.ixl_state.specs.sci_telegram.declared.telegram.Telegram.{Telegram}
use Rattle.ixl_state.specs.rasta_core.reason.Reason.{Reason}
use Rattle.ixl_state.specs.rasta_core.reason.Reason.TheVariants as reason
use Rattle.ixl_state.specs.ixl_client.Client.{PeerState}
use Rattle.ixl_state.specs.ixl_client.Meaning.{meaning, meaning_of, initial_meaning, is_for_client, is_in_turn, is_in_version, is_match, place_of, report_meaning, state_in}
use Rattle.ixl_state.specs.ixl_client.ClientSoFar.{Closes, ClientSoFar, calling}
use Rattle.ixl_state.specs.ixl_client.Step.{acted_on, acting, at_stage, meaning_of_item, following, saying, stage_after_report}
use Rattle.ixl_state.specs.ixl_client.declared.indication.Indication.{Indication}
use Rattle.ixl_state.specs.ixl_client.declared.indication.ObjectState.{ObjectState}
use Rattle.ixl_state.specs.ixl_client.declared.stage.Stage.{Stage}
use Rattle.ixl_state.specs.ixl_client.declared.stage.Stage.TheVariants as stage
use Rattle.ixl_laws.proofs.PickedByTest.{both, picked}

place_within : (peer : PeerState) (sender : List ℕ) (place : ℕ) → place_of peer sender ≡ Some place → place < length peer.objects
place_within peer sender place found = (position-Some (λ name. bytes_eq name sender) peer.objects place sender found).0

module _ (now : ℕ) (item : List ℕ) (part : ClientSoFar) (Holds : ClientSoFar → Type 0) (peer : PeerState) (now_at : Stage)
    (agrees : now_at ≡ stage.AwaitsAnswer → Holds (at_stage stage.AwaitsStart (saying now InitialisationRequest (acted_on item part))))
    (starts : now_at ≡ stage.AwaitsStart → Holds (at_stage (stage.AwaitsStatus (length part.client.peer.objects)) (acted_on item part)))
    (indicates : (told : Indication) → told.place < length peer.objects → is_in_turn peer told.place told.state now_at ≡ true →
    Holds (at_stage (stage_after_report part.client.stage) (record (acted_on item part) { heard = part.heard ++ told ∷ [] })))
    (completes : now_at ≡ stage.AwaitsStatus 0 → Holds (at_stage stage.Completed (acted_on item part)))
    (closes : (why : Reason) → Holds (calling now (Closes why) part)) where
  report_holds : (place : Option ℕ) (told : Option ObjectState) → ((n : ℕ) → place ≡ Some n → n < length peer.objects) →
      Holds (following now item (report_meaning peer place told now_at) part)
  unfolding following
  report_holds None told within = closes reason.State
  report_holds (Some place) None within = closes reason.State
  report_holds (Some place) (Some state) within =
      picked (λ c. Holds (following now item c part)) (is_in_turn peer place state now_at && is_in_version peer.version state) _ _
      (λ e. indicates (record { place = place; state = state }) (within place refl) (both _ _ e).0) (λ e. closes reason.State)

  initial_holds : (told : Initialisation) (at : Stage) → now_at ≡ at → Holds (following now item (initial_meaning peer told at) part)
  unfolding following
  initial_holds (VersionAnswer agreement version) stage.AwaitsAnswer is =
      picked (λ c. Holds (following now item c part)) (is_match agreement && version == peer.version) _ _ (λ e. agrees is) (λ e. closes reason.Version)
  initial_holds (VersionAnswer agreement version) stage.Outside is = closes reason.State
  initial_holds (VersionAnswer agreement version) stage.AwaitsStart is = closes reason.State
  initial_holds (VersionAnswer agreement version) (stage.AwaitsStatus left) is = closes reason.State
  initial_holds (VersionAnswer agreement version) stage.Completed is = closes reason.State
  initial_holds (VersionAnswer agreement version) stage.AwaitsReport is = closes reason.State
  initial_holds StartInitialisation stage.AwaitsStart is = starts is
  initial_holds StartInitialisation stage.Outside is = closes reason.State
  initial_holds StartInitialisation stage.AwaitsAnswer is = closes reason.State
  initial_holds StartInitialisation (stage.AwaitsStatus left) is = closes reason.State
  initial_holds StartInitialisation stage.Completed is = closes reason.State
  initial_holds StartInitialisation stage.AwaitsReport is = closes reason.State
  initial_holds InitialisationCompleted (stage.AwaitsStatus left) is =
      picked (λ c. Holds (following now item c part)) (left == 0) _ _ (λ e. completes (is ∙ ap stage.AwaitsStatus (eqb-true left 0 e))) (λ e. closes reason.State)
  initial_holds InitialisationCompleted stage.Outside is = closes reason.State
  initial_holds InitialisationCompleted stage.AwaitsAnswer is = closes reason.State
  initial_holds InitialisationCompleted stage.AwaitsStart is = closes reason.State
  initial_holds InitialisationCompleted stage.Completed is = closes reason.State
  initial_holds InitialisationCompleted stage.AwaitsReport is = closes reason.State
  initial_holds InitialisationRequest at is = closes reason.State
  initial_holds (VersionCheck version) at is = closes reason.State

  told_holds : (sender : List ℕ) (told : Message) → Holds (following now item (meaning_of peer sender told now_at) part)
  unfolding following
  told_holds sender (message.Initialisation protocol initialisation) =
      picked (λ c. Holds (following now item c part)) (bytes_eq sender peer.name) _ _ (λ e. initial_holds initialisation now_at refl) (λ e. closes reason.State)
  told_holds sender (message.Signal told) = report_holds (place_of peer sender) (state_in (message.Signal told)) (place_within peer sender)
  told_holds sender (message.Point told) = report_holds (place_of peer sender) (state_in (message.Point told)) (place_within peer sender)
  told_holds sender (message.Detection told) = report_holds (place_of peer sender) (state_in (message.Detection told)) (place_within peer sender)

  item_holds : (read : Result Telegram SciFault) → Holds (following now item (meaning_of_item peer now_at read) part)
  unfolding meaning following
  item_holds (Err fault) = closes reason.State
  item_holds (Ok telegram) =
      picked (λ c. Holds (following now item c part)) (is_for_client peer telegram) _ _ (λ e. told_holds telegram.sender telegram.message) (λ e. closes reason.State)

  pub acts : peer ≡ part.client.peer → now_at ≡ part.client.stage → Holds (acting now item part)
  unfolding acting
  acts same at = subst (λ p. Holds (following now item (meaning_of_item p part.client.stage (reading item)) part)) same
      (subst (λ s. Holds (following now item (meaning_of_item peer s (reading item)) part)) at (item_holds (reading item)))
