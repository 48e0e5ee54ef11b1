-- How a client closes its link.
use Rattle.std.proofs.Common.{◌≡◌, ℕ, Bool, true, false, if◌then◌else◌, List, [], ◌∷◌, append_assoc, refl, ap, ◌∙◌}
use Rattle.std.specs.Prelude.{Result, Ok, Err}
use Rattle.sci_telegram.specs.Telegrams.{writing}
use Rattle.sci_telegram.specs.declared.message.Message.{Message}
use Rattle.rasta_core.specs.Calls.{answer_to_send, closing_by}
use Rattle.rasta_core.specs.PdusHandedOut.{closing, entered, is_told, silent, telling}
use Rattle.rasta_core.specs.State.{LinkState, is_open, is_up}
use Rattle.rasta_core.specs.fault.SendFault.{SendFault}
use Rattle.rasta_core.specs.fault.SendFault.TheVariants.{NotUp, WindowFull}
use Rattle.rasta_core.specs.phase.Phase.{Phase}
use Rattle.rasta_core.specs.phase.Phase.TheVariants as phase
use Rattle.rasta_core.specs.reason.Reason.{Reason}
use Rattle.rasta_core.specs.reason.Reason.TheVariants as reason
use Rattle.ixl_client.specs.Client.{ClientState, is_outside}
use Rattle.ixl_client.specs.ClientSoFar.{Closes, ClientSoFar, Sends, calling}
use Rattle.ixl_client.specs.Step.{acting_all, at_stage, commanding, fallen, is_refused_by_window, message_of, posting, stage_after_command, telegram_to}
use Rattle.ixl_client.specs.declared.command.Command.{Command}
use Rattle.ixl_client.specs.declared.stage.Stage.TheVariants as stage
use Rattle.ixl_client.specs.LinkClosed.{ClosesForWindow, ClosesWith, SendsAlone, telegram_of}

closing_closes : (why : Reason) (link : LinkState) → is_open (closing why link).link.phase ≡ false
unfolding closing telling
closing_closes why link = cases (is_told why) where
  cases : (b : Bool) → is_open (if b then telling why link else silent (record link { phase = phase.Closed; closed_at = link.clock })).link.phase ≡ false
  cases true = refl
  cases false = refl

closes : (now : ℕ) (why : Reason) (link : LinkState) → is_open (closing_by now why link).link.phase ≡ false
unfolding closing_by
closes now why link = cases (is_open (entered now link).link.phase) refl where
  cases : (b : Bool) → is_open (entered now link).link.phase ≡ b → is_open (if b then closing why (entered now link).link else silent (entered now link).link).link.phase ≡ false
  cases true is = closing_closes why (entered now link).link
  cases false is = is

pub closed_not_up : (p : Phase) → is_open p ≡ false → is_up p ≡ false
closed_not_up phase.Closed is = refl
closed_not_up phase.Start is = refl
closed_not_up phase.Up is = is
closed_not_up phase.RetransmissionRequested is = is
closed_not_up phase.RetransmissionRunning is = is

pub fallen_link : (client : ClientState) → (fallen client).link ≡ client.link
unfolding fallen
fallen_link client = cases (is_up client.link.phase) where
  cases : (b : Bool) → (if b then client else record client { stage = stage.Outside }).link ≡ client.link
  cases true = refl
  cases false = refl

fallen_outside : (client : ClientState) → is_up client.link.phase ≡ false → is_outside (fallen client).stage ≡ true
unfolding fallen
fallen_outside client is = ap (λ b. is_outside (if b then client else record client { stage = stage.Outside }).stage) is

-- ---- the window

posting_refused : (now : ℕ) (told : Message) (a : ClientSoFar) → answer_to_send now a.client.link ≡ Err WindowFull →
    posting now told a ≡ calling now (Closes reason.Window) (calling now (Sends (writing (telegram_to a.client.peer told))) a)
unfolding posting
posting_refused now told a full = ap (λ answer. if is_refused_by_window answer then calling now (Closes reason.Window) sent else sent) full where
  sent : ClientSoFar
  sent = calling now (Sends (writing (telegram_to a.client.peer told))) a

not_refused : (answer : Result Unit SendFault) → (answer ≡ Err WindowFull → ⊥) → is_refused_by_window answer ≡ false
not_refused (Ok done) other = refl
not_refused (Err NotUp) other = refl
not_refused (Err WindowFull) other = absurd (other refl)

posting_sent : (now : ℕ) (told : Message) (a : ClientSoFar) → (answer_to_send now a.client.link ≡ Err WindowFull → ⊥) →
    posting now told a ≡ calling now (Sends (writing (telegram_to a.client.peer told))) a
unfolding posting
posting_sent now told a other = ap (λ b. if b then calling now (Closes reason.Window) sent else sent) (not_refused (answer_to_send now a.client.link) other) where
  sent : ClientSoFar
  sent = calling now (Sends (writing (telegram_to a.client.peer told))) a

pub command_closes : (now : ℕ) (command : Command) (a : ClientSoFar) → answer_to_send now a.client.link ≡ Err WindowFull →
    ClosesForWindow (telegram_of command a) a (commanding now command a)
unfolding commanding calling
command_closes now command a full = record {
  calls = ap (λ (p : ClientSoFar). p.calls) refused ∙ append_assoc a.calls (Sends (telegram_of command a) ∷ []) (Closes reason.Window ∷ []);
  closed = ap (λ (l : LinkState). is_open l.phase) (fallen_link done.client) ∙ closed;
  outside = fallen_outside done.client (closed_not_up done.client.link.phase closed);
} where
  sent : ClientSoFar
  sent = calling now (Sends (telegram_of command a)) a

  refused : posting now (message_of command) a ≡ calling now (Closes reason.Window) sent
  refused = posting_refused now (message_of command) a full

  done : ClientSoFar
  done = at_stage (stage_after_command command a.client.stage) (posting now (message_of command) a)

  closed : is_open done.client.link.phase ≡ false
  closed = ap (λ (p : ClientSoFar). is_open p.client.link.phase) refused ∙ closes now reason.Window sent.client.link

pub command_sends : (now : ℕ) (command : Command) (a : ClientSoFar) → (answer_to_send now a.client.link ≡ Err WindowFull → ⊥) →
    SendsAlone (telegram_of command a) a (commanding now command a)
unfolding commanding calling
command_sends now command a other = record { calls = ap (λ (p : ClientSoFar). p.calls) (posting_sent now (message_of command) a other) }

-- ---- what comes out of the order

closed_rests : (now : ℕ) (others : List (List ℕ)) (a : ClientSoFar) → is_open a.client.link.phase ≡ false → acting_all now others a ≡ a
unfolding acting_all
closed_rests now [] a closed = refl
closed_rests now (item ∷ others) a closed = rw closed refl

pub closes_with : (now : ℕ) (why : Reason) (a b : ClientSoFar) → b ≡ calling now (Closes why) a → ClosesWith now why a b
unfolding calling
closes_with now why a b is = record {
  calls = ap (λ (p : ClientSoFar). p.calls) is;
  closed = closed;
  acted = ap (λ (p : ClientSoFar). p.acted) is;
  heard = ap (λ (p : ClientSoFar). p.heard) is;
  behind = λ others. closed_rests now others b closed;
} where
  closed : is_open b.client.link.phase ≡ false
  closed = ap (λ (p : ClientSoFar). is_open p.client.link.phase) is ∙ closes now why a.client.link
