-- What each call of a client's link leaves.
use Rattle.std.proofs.Common.{◌≡◌, ℕ, Bool, true, false, List, length, refl, sym, ◌∙◌}
use Rattle.std.specs.Prelude.{◌&&◌, ◌-◌, nat_lt, nat_le, is_ok, Result, Ok, Err}
use Rattle.std.proofs.lemmas.Bool.{true≢false, false≢true}
use Rattle.ixl_spec.specs.rasta_core.Calls.{acceptance, answer_to_send, closing_by, sending_item, ticking}
use Rattle.ixl_spec.specs.rasta_core.Parameters.{heartbeat_interval, window_size}
use Rattle.ixl_spec.specs.rasta_core.PdusHandedOut.{Step, beating, closed, closing, entered, giving, is_told, sending, silent, telling}
use Rattle.ixl_spec.specs.rasta_core.State.{LinkState, is_client, is_open, is_up}
use Rattle.ixl_spec.specs.rasta_core.fault.SendFault.{SendFault}
use Rattle.ixl_spec.specs.rasta_core.reason.Reason.{Reason}
use Rattle.ixl_spec.specs.ixl_client.ClientSoFar.{LinkCall, Opens, Ticks, Closes, Sends, Receives, call_made}
use Rattle.ixl_spec.specs.ixl_client.Step.{is_refused_by_window}
use Rattle.simulator_move_laws.proofs.Interlocking.Tests.{by_test}
use Rattle.simulator_move_laws.proofs.Interlocking.Phases.{Goes, goes_same, goes_closed, goes_then, stays_open, stays_up, up_is_open}
use Rattle.simulator_move_laws.proofs.Interlocking.Receipts.{entered_goes, receiving_goes, telling_goes}

beating_goes : (link : LinkState) → Goes link (beating link).link
unfolding beating sending
beating_goes link = by_test (λ (step : Step). Goes link step.link) (is_up link.phase && nat_le heartbeat_interval (link.clock - link.sent_at)) _ _
    (λ e. goes_same link _ refl refl refl) (λ e. goes_same link link refl refl refl)

pub ticking_goes : (now : ℕ) (link : LinkState) → Goes link (ticking now link).link
unfolding ticking
ticking_goes now link = goes_then link (entered now link).link (ticking now link).link (entered_goes now link) (beating_goes (entered now link).link)

closing_goes : (why : Reason) (link : LinkState) → is_open link.phase ≡ true → Goes link (closing why link).link
unfolding closing
closing_goes why link inside = by_test (λ (step : Step). Goes link step.link) (is_told why) (telling why link) _ (λ e. telling_goes why link inside) (λ e. goes_closed link (closed link) refl refl inside)

pub closing_by_goes : (now : ℕ) (why : Reason) (link : LinkState) → Goes link (closing_by now why link).link
unfolding closing_by
closing_by_goes now why link =
    let begun : LinkState = (entered now link).link
    in by_test (λ (step : Step). Goes link step.link) (is_open begun.phase) (closing why begun) (silent begun)
    (λ e. goes_then link begun (closing why begun).link (entered_goes now link) (closing_goes why begun e)) (λ e. entered_goes now link)

giving_goes : (item : List ℕ) (link : LinkState) → Goes link (giving item link).link
unfolding giving sending
giving_goes item link = goes_same link _ refl refl refl

pub sending_goes : (now : ℕ) (item : List ℕ) (link : LinkState) → Goes link (sending_item now item link).link
unfolding sending_item
sending_goes now item link =
    let begun : LinkState = (entered now link).link
    in by_test (λ (step : Step). Goes link step.link) (is_ok (acceptance begun)) (giving item begun) (silent begun)
    (λ e. goes_then link begun (giving item begun).link (entered_goes now link) (giving_goes item begun)) (λ e. entered_goes now link)

-- a call that doesn't open
abbrev pub IsNoOpening : LinkCall → Type 0
IsNoOpening Opens = ⊥
IsNoOpening Ticks = Unit {0}
IsNoOpening (Closes why) = Unit {0}
IsNoOpening (Sends item) = Unit {0}
IsNoOpening (Receives bytes) = Unit {0}

pub call_goes : (now : ℕ) (call : LinkCall) (link : LinkState) → IsNoOpening call → is_client link.identity.role ≡ true → Goes link (call_made now call link).link
call_goes now Opens link none client = absurd none
call_goes now Ticks link is client = ticking_goes now link
call_goes now (Closes why) link is client = closing_by_goes now why link
call_goes now (Sends item) link is client = sending_goes now item link
call_goes now (Receives bytes) link is client = receiving_goes now bytes link client

-- a close leaves no link open
pub closed_by : (now : ℕ) (why : Reason) (link : LinkState) → is_open (closing_by now why link).link.phase ≡ false
unfolding closing_by closing telling
closed_by now why link =
    let begun : LinkState = (entered now link).link
    in by_test (λ (step : Step). is_open step.link.phase ≡ false) (is_open begun.phase) (closing why begun) (silent begun)
    (λ e. by_test (λ (step : Step). is_open step.link.phase ≡ false) (is_told why) (telling why begun) (silent (closed begun)) (λ e. refl) (λ e. refl)) (λ e. e)

-- ---- what a client up gives, where the window doesn't refuse it and it stays open

refused_or_accepted : (link : LinkState) → is_up link.phase ≡ true → is_refused_by_window (acceptance link) ≡ false → is_ok (acceptance link) ≡ true
unfolding acceptance
refused_or_accepted link up =
    by_test (λ answer. is_refused_by_window answer ≡ false → is_ok answer ≡ true) (is_up link.phase) _ _
    (λ e. by_test (λ answer. is_refused_by_window answer ≡ false → is_ok answer ≡ true) (nat_lt (length link.waiting) window_size) _ _ (λ e. λ none. refl) (λ e. λ none. absurd (true≢false none)))
    (λ e. absurd (true≢false (sym up ∙ e)))

-- where it isn't accepted the link is as it was entered
pub accepted_where_open : (now : ℕ) (item : List ℕ) (link : LinkState) → is_up link.phase ≡ true → is_refused_by_window (answer_to_send now link) ≡ false →
    is_open (sending_item now item link).link.phase ≡ true → is_ok (answer_to_send now link) ≡ true
unfolding answer_to_send sending_item
accepted_where_open now item link up none inside = cases (is_ok (acceptance begun)) refl where
  begun : LinkState
  begun = (entered now link).link

  opened : is_open begun.phase ≡ true
  opened = by_test (λ (step : Step). is_open step.link.phase ≡ true → is_open begun.phase ≡ true) (is_ok (acceptance begun)) (giving item begun) (silent begun)
      (λ e. λ is. stays_open begun.phase (giving item begun).link.phase (giving_goes item begun).may is) (λ e. λ is. is) inside

  cases : (test : Bool) → is_ok (acceptance begun) ≡ test → is_ok (acceptance begun) ≡ true
  cases true is = is
  cases false is = refused_or_accepted begun (stays_up link.phase begun.phase (entered_goes now link).may up opened) none

-- where it is accepted the link is up, and stays so
accepted_is_up : (link : LinkState) → is_ok (acceptance link) ≡ true → is_up link.phase ≡ true
unfolding acceptance
accepted_is_up link = by_test (λ (answer : Result Unit SendFault). is_ok answer ≡ true → is_up link.phase ≡ true) (is_up link.phase) _ _ (λ e. λ is. e) (λ e. λ is. absurd (false≢true is))

pub refused_where_shut : (now : ℕ) (item : List ℕ) (link : LinkState) → is_open (sending_item now item link).link.phase ≡ false → is_ok (answer_to_send now link) ≡ false
unfolding answer_to_send sending_item giving sending
refused_where_shut now item link shut = cases (is_ok (acceptance begun)) refl where
  begun : LinkState
  begun = (entered now link).link

  opened : is_ok (acceptance begun) ≡ true → is_open (sending_item now item link).link.phase ≡ true
  opened is = by_test (λ (step : Step). is_open step.link.phase ≡ true) (is_ok (acceptance begun)) (giving item begun) (silent begun)
      (λ e. up_is_open begun.phase (accepted_is_up begun is)) (λ e. absurd (true≢false (sym is ∙ e)))

  cases : (test : Bool) → is_ok (acceptance begun) ≡ test → is_ok (acceptance begun) ≡ false
  cases true is = absurd (true≢false (sym (opened is) ∙ shut))
  cases false is = is

-- what the window refuses isn't accepted
pub window_refuses : (answer : Result Unit SendFault) → is_refused_by_window answer ≡ true → is_ok answer ≡ false
window_refuses (Ok done) is = absurd (false≢true is)
window_refuses (Err fault) is = refl
