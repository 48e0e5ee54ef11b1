-- What entering a call, and opening, leave of a client's link.
use Rattle.std.proofs.Common.{◌≡◌, ◌⊎◌, ℕ, ◌+◌, ◌≤◌, true, false, length, refl, sym, ap, subst, ◌∙◌, arith}
use Rattle.std.specs.Prelude.{◌&&◌, ◌-◌, nat_le, nat_lt}
use Rattle.std.proofs.lemmas.Bool.{true≢false, false≢true, lt-ltb}
use Rattle.ixl_spec.specs.rasta_core.Calls.{opening, opens, ticking}
use Rattle.ixl_spec.specs.rasta_core.Clock.{deadline, settled, state_at}
use Rattle.ixl_spec.specs.rasta_core.Establishment.{beginning, is_down, may_open, requesting}
use Rattle.ixl_spec.specs.rasta_core.Parameters.{connection_limit, heartbeat_interval, quiet_time, time_limit}
use Rattle.ixl_spec.specs.rasta_core.PdusHandedOut.{Step, beating, closed, entered, limited, sending, silent, telling}
use Rattle.ixl_spec.specs.rasta_core.State.{LinkState, confirmed_items, is_client, is_open, is_up}
use Rattle.ixl_spec.specs.rasta_core.phase.Phase.TheVariants as link_phase
use Rattle.ixl_spec.specs.rasta_core.phase.State.{State}
use Rattle.ixl_spec.specs.rasta_core.phase.State.TheVariants as state
use Rattle.ixl_spec.specs.rasta_core.reason.Reason.TheVariants as reason
use Rattle.ixl_spec.specs.ixl_client.Client.{PeerState}
use Rattle.simulator_machine.specs.Link.{Down, Gone, Link, Quiet, Start}
use Rattle.simulator_machine.specs.Point.{Point}
use Rattle.simulator_machine.specs.Signal.{Signal}
use Rattle.simulator_move_laws.specs.Calls.{Items}
use Rattle.simulator_move_laws.specs.Facts.{LinkFacts, PointFacts, SignalFacts}
use Rattle.simulator_move_laws.specs.EndsSeen.{client_in}
use Rattle.simulator_move_laws.specs.Link.{client_at}
use Rattle.simulator_move_laws.specs.Nodes.{openings}
use Rattle.simulator_move_laws.proofs.Interlocking.Tests.{by_test, both_true}
use Rattle.simulator_move_laws.proofs.Interlocking.Phases.{Goes, goes_then, stays_open}
use Rattle.simulator_move_laws.proofs.Interlocking.Receipts.{entered_goes}
use Rattle.simulator_move_laws.proofs.Interlocking.Calls.{ticking_goes}
use Rattle.simulator_move_laws.proofs.Interlocking.Settled.{confirmed_settled, place_settled, up_settled}

-- ---- where a client is

down_seen : (s : State) → is_down s ≡ true → client_in s ≡ Down
down_seen state.Quiet is = absurd (false≢true is)
down_seen state.Down is = refl
down_seen state.Start is = absurd (false≢true is)
down_seen state.Up is = absurd (false≢true is)
down_seen state.RetransmissionRequested is = absurd (false≢true is)
down_seen state.RetransmissionRunning is = absurd (false≢true is)

down_is : (s : State) → client_in s ≡ Down → s ≡ state.Down
down_is state.Quiet is = absurd (cc (is))
down_is state.Down is = refl
down_is state.Start is = absurd (cc (is))
down_is state.Up is = absurd (cc (is))
down_is state.RetransmissionRequested is = absurd (cc (is))
down_is state.RetransmissionRunning is = absurd (cc (is))

pub down_at : (now : ℕ) (link : LinkState) → client_at now link ≡ Down → state_at now link ≡ state.Down
down_at now link is = down_is (state_at now link) is

-- a link that closed just now is quiet
just_closed : (now : ℕ) (link : LinkState) → link.phase ≡ link_phase.Closed → link.closed_at ≡ now → client_at now link ≡ Quiet
unfolding state_at deadline
just_closed now link closed at = rw closed (rw at (rw (within now) refl)) where
  within : (n : ℕ) → nat_lt n (n + quiet_time) ≡ true
  within n = lt-ltb n (n + quiet_time) (omega arith)

-- ---- entering a call

settled_clock : (now : ℕ) (link : LinkState) → (settled now link).clock ≡ now
unfolding settled
settled_clock now link = by_test (λ (l : LinkState). l.clock ≡ now) (is_open link.phase && nat_le (deadline link) now)
    (record link { phase = link_phase.Closed; closed_at = deadline link; clock = now }) (record link { clock = now }) (λ e. refl) (λ e. refl)

-- it leaves the link settled, or just closed
by_entering : (P : LinkState → Type 0) (now : ℕ) (link : LinkState) → (is_open (settled now link).phase ≡ true → P (telling reason.Sequence (settled now link)).link) → P (settled now link) → P (entered now link).link
unfolding entered limited
by_entering P now link full few = by_test (λ (step : Step). P step.link) (is_open (settled now link).phase && nat_le connection_limit (settled now link).sent)
    (telling reason.Sequence (settled now link)) (silent (settled now link)) (λ e. full (both_true _ _ e).0) (λ e. few)

entered_clock : (now : ℕ) (link : LinkState) → (entered now link).link.clock ≡ now
unfolding telling sending
entered_clock now link = by_entering (λ l. l.clock ≡ now) now link (λ e. settled_clock now link) (settled_clock now link)

up_entered : (now : ℕ) (link : LinkState) → is_up (entered now link).link.phase ≡ true → is_up link.phase ≡ true
unfolding telling
up_entered now link = by_entering (λ l. is_up l.phase ≡ true → is_up link.phase ≡ true) now link (λ e. λ up. absurd (false≢true up)) (up_settled now link)

confirmed_entered : (now : ℕ) (link : LinkState) → confirmed_items (entered now link).link ≡ confirmed_items link
unfolding telling sending
confirmed_entered now link = by_entering (λ l. confirmed_items l ≡ confirmed_items link) now link (λ e. confirmed_settled now link) (confirmed_settled now link)

told_clock : (now : ℕ) (link : LinkState) → (telling reason.Sequence (settled now link)).link.clock ≡ now
unfolding telling sending
told_clock now link = settled_clock now link

told_quiet : (now : ℕ) (link : LinkState) → client_at now (telling reason.Sequence (settled now link)).link ≡ Quiet
unfolding telling sending
told_quiet now link = just_closed now (telling reason.Sequence (settled now link)).link refl (settled_clock now link)

-- ---- a tick

up_beaten : (link : LinkState) → is_up (beating link).link.phase ≡ true → is_up link.phase ≡ true
unfolding beating sending
up_beaten link = by_test (λ (step : Step). is_up step.link.phase ≡ true → is_up link.phase ≡ true) (is_up link.phase && nat_le heartbeat_interval (link.clock - link.sent_at)) _ _ (λ e. λ up. up) (λ e. λ up. up)

up_ticked : (now : ℕ) (link : LinkState) → is_up (ticking now link).link.phase ≡ true → is_up link.phase ≡ true
unfolding ticking
up_ticked now link up = up_entered now link (up_beaten (entered now link).link up)

-- ---- what is known of both ends

settled_facts : (now : ℕ) (link : LinkState) (items : Items) (seen : Link) → LinkFacts now link items seen → LinkFacts now (settled now link) items seen
unfolding settled deadline
settled_facts now link items seen facts = record {
  up = λ up. facts.up (up_settled now link up);
  quiet = λ down. facts.quiet (down_at now link (sym (place_settled now link) ∙ ap client_in down));
  alive = by_test (λ (l : LinkState). is_open l.phase ≡ true → nat_lt now (deadline l) ≡ true) (is_open link.phase && nat_le (deadline link) now)
      (record link { phase = link_phase.Closed; closed_at = deadline link; clock = now }) (record link { clock = now }) (λ e. λ opened. absurd (false≢true opened)) (λ e. facts.alive);
  counted = by_test (λ (l : LinkState). is_open l.phase ≡ true → l.given ≡ length items.given) (is_open link.phase && nat_le (deadline link) now)
      (record link { phase = link_phase.Closed; closed_at = deadline link; clock = now }) (record link { clock = now }) (λ e. λ opened. absurd (false≢true opened)) (λ e. facts.counted);
}

pub entered_facts : (now : ℕ) (link : LinkState) (items : Items) (seen : Link) → LinkFacts now link items seen → LinkFacts now (entered now link).link items seen
unfolding telling
entered_facts now link items seen facts = by_entering (λ l. LinkFacts now l items seen) now link (λ e. shut refl) (settled_facts now link items seen facts) where
  shut : (telling reason.Sequence (settled now link)).link.phase ≡ link_phase.Closed → LinkFacts now (telling reason.Sequence (settled now link)).link items seen
  shut is = record {
    up = λ up. absurd (false≢true (ap is_up (sym is) ∙ up));
    quiet = λ down. absurd (cc (told_quiet now link, ap client_in down));
    alive = λ opened. absurd (false≢true (ap is_open (sym is) ∙ opened));
    counted = λ opened. absurd (false≢true (ap is_open (sym is) ∙ opened));
  }

pub signal_facts_entered : (now : ℕ) (link : LinkState) (items : Items) (signal : Signal) → SignalFacts now link items signal → SignalFacts now (entered now link).link items signal
signal_facts_entered now link items signal facts = record {
  ends = entered_facts now link items signal.link facts.ends;
  confirmed = λ up. subst (λ n. (signal.link.server ≡ Gone) ⊎ (n - openings ≤ length signal.done)) (sym (confirmed_entered now link)) (facts.confirmed (up_entered now link up));
}

pub point_facts_entered : (now : ℕ) (peer : PeerState) (link : LinkState) (items : Items) (point : Point) → PointFacts now peer link items point → PointFacts now peer (entered now link).link items point
point_facts_entered now peer link items point facts = record {
  ends = entered_facts now link items point.link facts.ends;
  reports = λ opened. facts.reports (stays_open link.phase (entered now link).link.phase (entered_goes now link).may opened);
}

-- ---- opening

opening_none : (now : ℕ) (link : LinkState) → opens now link ≡ false → (opening now link).link ≡ (entered now link).link
unfolding opens opening
opening_none now link none = by_test (λ (step : Step). step.link ≡ (entered now link).link) (may_open (entered now link).link) (requesting (entered now link).link) (silent (entered now link).link)
    (λ may. absurd (true≢false (sym may ∙ none))) (λ e. refl)

opening_some : (now : ℕ) (link : LinkState) → opens now link ≡ true → (opening now link).link ≡ (requesting (entered now link).link).link
unfolding opens opening
opening_some now link some = by_test (λ (step : Step). step.link ≡ (requesting (entered now link).link).link) (may_open (entered now link).link) (requesting (entered now link).link) (silent (entered now link).link)
    (λ may. refl) (λ e. absurd (true≢false (sym some ∙ e)))

may_open_down : (now : ℕ) (link : LinkState) → link.clock ≡ now → may_open link ≡ true → client_at now link ≡ Down
may_open_down now link at may = down_seen (state_at now link) (subst (λ clock. is_down (state_at clock link) ≡ true) at (both_true (is_client link.identity.role) (is_down (state_at link.clock link)) may).1)

-- only a client that is down opens
pub opens_down : (now : ℕ) (link : LinkState) → opens now link ≡ true → client_at now link ≡ Down
unfolding opens
opens_down now link = by_entering (λ l. may_open l ≡ true → client_at now link ≡ Down) now link
    (λ e. λ may. absurd (cc (told_quiet now link, may_open_down now (telling reason.Sequence (settled now link)).link (told_clock now link) may)))
    (λ may. sym (place_settled now link) ∙ may_open_down now (settled now link) (settled_clock now link) may)

-- ---- a tick, and then the opening that may follow

abbrev pub ticked_link : ℕ → LinkState → LinkState
ticked_link now link = (opening now (ticking now link).link).link

-- where it doesn't open
pub record TickedOn (now : ℕ) (link : LinkState) : Type 0 where
  pub is : ticked_link now link ≡ (entered now (ticking now link).link).link
  pub goes : Goes link (ticked_link now link)
  pub up : is_up (ticked_link now link).phase ≡ true → is_up link.phase ≡ true

pub ticks_on : (now : ℕ) (link : LinkState) → opens now (ticking now link).link ≡ false → TickedOn now link
ticks_on now link none = record {
  is = is;
  goes = subst (Goes link) (sym is) (goes_then link (ticking now link).link (entered now (ticking now link).link).link (ticking_goes now link) (entered_goes now (ticking now link).link));
  up = λ up. up_ticked now link (up_entered now (ticking now link).link (ap (λ (l : LinkState). is_up l.phase) (sym is) ∙ up));
} where
  is : ticked_link now link ≡ (entered now (ticking now link).link).link
  is = opening_none now (ticking now link).link none

-- and where it does
pub record TickedAnew (now : ℕ) (link : LinkState) : Type 0 where
  pub identity : (ticked_link now link).identity ≡ link.identity
  pub phase : (ticked_link now link).phase ≡ link_phase.Start
  pub place : client_at now (ticked_link now link) ≡ Start

requested_start : (now : ℕ) (link : LinkState) → link.clock ≡ now → client_at now (requesting link).link ≡ Start
unfolding requesting sending beginning state_at deadline
requested_start now link at = rw at (rw (within now) refl) where
  within : (n : ℕ) → nat_lt n (n + time_limit) ≡ true
  within n = lt-ltb n (n + time_limit) (omega arith)

requested_phase : (link : LinkState) → (requesting link).link.phase ≡ link_phase.Start
unfolding requesting sending beginning
requested_phase link = refl

requested_identity : (link : LinkState) → (requesting link).link.identity ≡ link.identity
unfolding requesting sending beginning
requested_identity link = refl

pub ticks_anew : (now : ℕ) (link : LinkState) → opens now (ticking now link).link ≡ true → TickedAnew now link
ticks_anew now link some = record {
  identity = ap (λ (l : LinkState). l.identity) is ∙ requested_identity begun ∙ (entered_goes now (ticking now link).link).identity ∙ (ticking_goes now link).identity;
  phase = ap (λ (l : LinkState). l.phase) is ∙ requested_phase begun;
  place = ap (client_at now) is ∙ requested_start now begun (entered_clock now (ticking now link).link);
} where
  begun : LinkState
  begun = (entered now (ticking now link).link).link

  is : ticked_link now link ≡ (requesting begun).link
  is = opening_some now (ticking now link).link some
