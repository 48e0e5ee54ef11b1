-- What a client sends are telegrams, and so items; and it speaks with one controller for good.
use Rattle.std.proofs.Common.{◌≡◌, ℕ, ◌<◌, List, [], ◌∷◌, ◌++◌, length, Option, Some, None, Result, Ok, Err, sym, subst}
use Rattle.std.specs.Prelude.{◌&&◌, ◌==◌}
use Rattle.std.specs.Str.{bytes_eq}
use Rattle.simulator_spec.specs.sci_telegram.TelegramRead.{reading}
use Rattle.simulator_spec.specs.sci_telegram.Telegrams.{IsMessage, writing}
use Rattle.simulator_spec.specs.sci_telegram.declared.fault.SciFault.{SciFault}
use Rattle.simulator_spec.specs.sci_telegram.declared.message.Initialisation.{Initialisation}
use Rattle.simulator_spec.specs.sci_telegram.declared.message.Initialisation.TheVariants.{InitialisationRequest, StartInitialisation, InitialisationCompleted, VersionCheck, VersionAnswer}
use Rattle.simulator_spec.specs.sci_telegram.declared.message.Message.{Message}
use Rattle.simulator_spec.specs.sci_telegram.declared.message.Message.TheVariants as message
use Rattle.simulator_spec.specs.sci_telegram.declared.telegram.Telegram.{Telegram}
use Rattle.simulator_spec.specs.rasta_pdu.Items.{IsItem}
use Rattle.simulator_spec.specs.rasta_core.Calls.{answer_to_send, receiving}
use Rattle.simulator_spec.specs.rasta_core.State.{is_open, is_up}
use Rattle.simulator_spec.specs.rasta_core.reason.Reason.{Reason}
use Rattle.simulator_spec.specs.rasta_core.reason.Reason.TheVariants as reason
use Rattle.simulator_spec.specs.ixl_client.Client.{ClientState, PeerState, is_outside}
use Rattle.simulator_spec.specs.ixl_client.Meaning.{meaning, meaning_of, initial_meaning, is_for_client, is_in_turn, is_in_version, is_match, place_of, report_meaning, state_in}
use Rattle.simulator_spec.specs.ixl_client.ClientSoFar.{Closes, LinkCall, Opens, ClientSoFar, Receives, Sends, Ticks, calling}
use Rattle.simulator_spec.specs.ixl_client.Step.{acted_on, acting, acting_all, at_stage, commanding, meaning_of_item, ending, fallen, following, hearing, is_refused_by_window, message_of, posting, rising, saying, stage_after_command, stage_after_report, telegram_to, ticking}
use Rattle.simulator_spec.specs.ixl_client.declared.command.Command.{Command}
use Rattle.simulator_spec.specs.ixl_client.declared.command.Command.TheVariants as commands
use Rattle.simulator_spec.specs.ixl_client.declared.indication.Indication.{Indication}
use Rattle.simulator_spec.specs.ixl_client.declared.indication.ObjectState.{ObjectState}
use Rattle.simulator_spec.specs.ixl_client.declared.stage.Stage.{Stage}
use Rattle.simulator_spec.specs.ixl_client.declared.stage.Stage.TheVariants as stage
use Rattle.simulator_link_laws.proofs.HostItems.{TelegramsAreItems}
use Rattle.simulator_link_laws.proofs.Lists.{by_test}
use Rattle.simulator_link_laws.specs.Whole.{IsPeer}

-- calls that send items
abbrev pub AreSendable : List LinkCall → Type 0
AreSendable [] = Unit {0}
AreSendable (Opens ∷ others) = AreSendable others
AreSendable (Ticks ∷ others) = AreSendable others
AreSendable (Closes why ∷ others) = AreSendable others
AreSendable (Sends item ∷ others) = IsItem item × AreSendable others
AreSendable (Receives bytes ∷ others) = AreSendable others

sendable_joined : (first others : List LinkCall) → AreSendable first → AreSendable others → AreSendable (first ++ others)
sendable_joined [] others one more = more
sendable_joined (Opens ∷ calls) others one more = sendable_joined calls others one more
sendable_joined (Ticks ∷ calls) others one more = sendable_joined calls others one more
sendable_joined (Closes why ∷ calls) others one more = sendable_joined calls others one more
sendable_joined (Sends item ∷ calls) others one more = (one.0, sendable_joined calls others one.1 more)
sendable_joined (Receives bytes ∷ calls) others one more = sendable_joined calls others one more

module _ (written : TelegramsAreItems) (peer : PeerState) (is_peer : IsPeer peer) where
  -- a part of a step that has sent items, of a client of this peer
  pub record SaysItems (part : ClientSoFar) : Type 0 where
    pub items : AreSendable part.calls
    pub same : part.client.peer ≡ peer

  called_says : (now : ℕ) (call : LinkCall) (part : ClientSoFar) → AreSendable (call ∷ []) → SaysItems part → SaysItems (calling now call part)
  unfolding calling
  called_says now call part one is = record { items = sendable_joined part.calls (call ∷ []) is.items one; same = is.same }

  posting_says : (now : ℕ) (told : Message) (part : ClientSoFar) → IsMessage told → SaysItems part → SaysItems (posting now told part)
  unfolding posting
  posting_says now told part message is =
      by_test SaysItems (is_refused_by_window (answer_to_send now part.client.link)) (calling now (Closes reason.Window) sent) sent (λ e. called_says now (Closes reason.Window) sent tt was) (λ e. was)
    where
      sent : ClientSoFar
      sent = calling now (Sends (writing (telegram_to part.client.peer told))) part

      item : IsItem (writing (telegram_to part.client.peer told))
      item = subst (λ p. IsItem (writing (telegram_to p told))) (sym is.same) (written (telegram_to peer told) (record { sender = is_peer.own_name; receiver = is_peer.name; message = message }))

      was : SaysItems sent
      was = called_says now (Sends (writing (telegram_to part.client.peer told))) part (item, tt) is

  staged : (at : Stage) (part : ClientSoFar) → SaysItems part → SaysItems (at_stage at part)
  staged at part is = record { items = is.items; same = is.same }

  rising_says : (now : ℕ) (part : ClientSoFar) → SaysItems part → SaysItems (rising now part)
  unfolding rising
  rising_says now part is = by_test SaysItems (is_outside part.client.stage && is_up part.client.link.phase) _ part
      (λ e. staged stage.AwaitsAnswer (saying now (VersionCheck part.client.peer.version) part)
      (posting_says now (message.Initialisation part.client.peer.protocol (VersionCheck part.client.peer.version)) part (subst (λ p. p.version < 256) (sym is.same) is_peer.version) is))
      (λ e. is)

  -- acting on an item, course by course
  module _ (now : ℕ) (item : List ℕ) (part : ClientSoFar) (is : SaysItems part) where
    closes : (why : Reason) → SaysItems (calling now (Closes why) part)
    closes why = called_says now (Closes why) part tt is

    begun : SaysItems (acted_on item part)
    begun = record { items = is.items; same = is.same }

    agrees : SaysItems (at_stage stage.AwaitsStart (saying now InitialisationRequest (acted_on item part)))
    agrees = staged stage.AwaitsStart (saying now InitialisationRequest (acted_on item part)) (posting_says now (message.Initialisation (acted_on item part).client.peer.protocol InitialisationRequest) (acted_on item part) tt begun)

    indicates : (told : Indication) → SaysItems (at_stage (stage_after_report part.client.stage) (record (acted_on item part) { heard = part.heard ++ told ∷ [] }))
    indicates told = record { items = is.items; same = is.same }

    report_says : (known : PeerState) (place : Option ℕ) (told : Option ObjectState) (at : Stage) → SaysItems (following now item (report_meaning known place told at) part)
    unfolding following
    report_says known None told at = closes reason.State
    report_says known (Some place) None at = closes reason.State
    report_says known (Some place) (Some state) at = by_test (λ c. SaysItems (following now item c part)) (is_in_turn known place state at && is_in_version known.version state) _ _
        (λ e. indicates (record { place = place; state = state })) (λ e. closes reason.State)

    initial_says : (known : PeerState) (told : Initialisation) (at : Stage) → SaysItems (following now item (initial_meaning known told at) part)
    unfolding following
    initial_says known (VersionAnswer agreement version) stage.AwaitsAnswer =
        by_test (λ c. SaysItems (following now item c part)) (is_match agreement && version == known.version) _ _ (λ e. agrees) (λ e. closes reason.Version)
    initial_says known (VersionAnswer agreement version) stage.Outside = closes reason.State
    initial_says known (VersionAnswer agreement version) stage.AwaitsStart = closes reason.State
    initial_says known (VersionAnswer agreement version) (stage.AwaitsStatus left) = closes reason.State
    initial_says known (VersionAnswer agreement version) stage.Completed = closes reason.State
    initial_says known (VersionAnswer agreement version) stage.AwaitsReport = closes reason.State
    initial_says known StartInitialisation stage.AwaitsStart = staged (stage.AwaitsStatus (length part.client.peer.objects)) (acted_on item part) begun
    initial_says known StartInitialisation stage.Outside = closes reason.State
    initial_says known StartInitialisation stage.AwaitsAnswer = closes reason.State
    initial_says known StartInitialisation (stage.AwaitsStatus left) = closes reason.State
    initial_says known StartInitialisation stage.Completed = closes reason.State
    initial_says known StartInitialisation stage.AwaitsReport = closes reason.State
    initial_says known InitialisationCompleted (stage.AwaitsStatus left) =
        by_test (λ c. SaysItems (following now item c part)) (left == 0) _ _ (λ e. staged stage.Completed (acted_on item part) begun) (λ e. closes reason.State)
    initial_says known InitialisationCompleted stage.Outside = closes reason.State
    initial_says known InitialisationCompleted stage.AwaitsAnswer = closes reason.State
    initial_says known InitialisationCompleted stage.AwaitsStart = closes reason.State
    initial_says known InitialisationCompleted stage.Completed = closes reason.State
    initial_says known InitialisationCompleted stage.AwaitsReport = closes reason.State
    initial_says known InitialisationRequest at = closes reason.State
    initial_says known (VersionCheck version) at = closes reason.State

    told_says : (known : PeerState) (sender : List ℕ) (told : Message) (at : Stage) → SaysItems (following now item (meaning_of known sender told at) part)
    unfolding following
    told_says known sender (message.Initialisation protocol initialisation) at =
        by_test (λ c. SaysItems (following now item c part)) (bytes_eq sender known.name) _ _ (λ e. initial_says known initialisation at) (λ e. closes reason.State)
    told_says known sender (message.Signal told) at = report_says known (place_of known sender) (state_in (message.Signal told)) at
    told_says known sender (message.Point told) at = report_says known (place_of known sender) (state_in (message.Point told)) at
    told_says known sender (message.Detection told) at = report_says known (place_of known sender) (state_in (message.Detection told)) at

    item_says : (known : PeerState) (found : Result Telegram SciFault) (at : Stage) → SaysItems (following now item (meaning_of_item known at found) part)
    unfolding meaning following
    item_says known (Err fault) at = closes reason.State
    item_says known (Ok telegram) at =
        by_test (λ c. SaysItems (following now item c part)) (is_for_client known telegram) _ _ (λ e. told_says known telegram.sender telegram.message at) (λ e. closes reason.State)

    acting_says : SaysItems (acting now item part)
    unfolding acting
    acting_says = item_says part.client.peer (reading item) part.client.stage

  acting_all_says : (now : ℕ) (items : List (List ℕ)) (part : ClientSoFar) → SaysItems part → SaysItems (acting_all now items part)
  unfolding acting_all
  acting_all_says now [] part is = is
  acting_all_says now (item ∷ others) part is = by_test SaysItems (is_open part.client.link.phase) (acting_all now others (acting now item part)) part
      (λ e. acting_all_says now others (acting now item part) (acting_says now item part is)) (λ e. is)

  ending_says : (part : ClientSoFar) → SaysItems part → SaysItems (ending part)
  unfolding fallen
  ending_says part is = by_test (λ (c : ClientState). SaysItems (record part { client = c })) (is_up part.client.link.phase) part.client (record part.client { stage = stage.Outside })
      (λ e. record { items = is.items; same = is.same }) (λ e. record { items = is.items; same = is.same })

  pub hearing_says : (now : ℕ) (bytes : List ℕ) (part : ClientSoFar) → SaysItems part → SaysItems (hearing now bytes part)
  unfolding hearing
  hearing_says now bytes part is = ending_says _ (acting_all_says now (receiving now bytes part.client.link).items (rising now (calling now (Receives bytes) part))
      (rising_says now (calling now (Receives bytes) part) (called_says now (Receives bytes) part tt is)))

  command_message : (command : Command) → IsMessage (message_of command)
  command_message (commands.Indicate aspect) = tt
  command_message (commands.Move side) = tt

  pub commanding_says : (now : ℕ) (command : Command) (part : ClientSoFar) → SaysItems part → SaysItems (commanding now command part)
  unfolding commanding
  commanding_says now command part is = ending_says _ (staged (stage_after_command command part.client.stage) (posting now (message_of command) part) (posting_says now (message_of command) part (command_message command) is))

  pub ticking_says : (now : ℕ) (part : ClientSoFar) → SaysItems part → SaysItems (ticking now part)
  unfolding ticking
  ticking_says now part is = ending_says _ (called_says now Opens (calling now Ticks part) tt (called_says now Ticks part tt is))
