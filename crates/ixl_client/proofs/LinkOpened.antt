-- When a client opens its link.
use Rattle.std.proofs.Common.{◌≡◌, ℕ, ◌+◌, ◌-◌, ◌≤◌, Bool, true, false, if◌then◌else◌, arith, refl, ap, sym, ◌∙◌, subst}
use Rattle.std.specs.Prelude.{◌&&◌, nat_le, nat_lt}
use Rattle.std.proofs.lemmas.Bool.{false≢true, le-leb, le-ltb, ltb-false, lt-ltb}
use Rattle.rasta_core.specs.Calls.{opening, ticking}
use Rattle.rasta_core.specs.Clock.{deadline, open_state, settled, state_at}
use Rattle.rasta_core.specs.Establishment.{beginning, is_down, may_open, requesting}
use Rattle.rasta_core.specs.Parameters.{connection_limit, heartbeat_interval, quiet_time, time_limit}
use Rattle.rasta_core.specs.PdusHandedOut.{Step, beating, entered, limited, sending, silent, telling}
use Rattle.rasta_core.specs.State.{LinkState, is_client, is_open, is_up}
use Rattle.rasta_core.specs.identity.Identity.{Identity}
use Rattle.rasta_core.specs.phase.Phase.{Phase}
use Rattle.rasta_core.specs.phase.Phase.TheVariants as phase
use Rattle.rasta_core.specs.phase.State.TheVariants as state
use Rattle.rasta_core.specs.reason.Reason.TheVariants as reason
use Rattle.ixl_client.specs.ClientSoFar.{ClientSoFar, calling}
use Rattle.ixl_client.specs.Step.{ticking as client_ticking}
use Rattle.ixl_client.specs.LinkOpened.{AsksWhereDown, IsNotDown}
use Rattle.ixl_client.proofs.PickedByTest.{either, picked_other}
use Rattle.ixl_client.proofs.LinkClosed.{closed_not_up, fallen_link}

-- ---- how a call begins

record IsAt (now : ℕ) (old new : LinkState) : Type 0 where
  clock : new.clock ≡ now
  identity : new.identity ≡ old.identity

settled_at : (now : ℕ) (link : LinkState) → IsAt now link (settled now link)
unfolding settled
settled_at now link = cases (is_open link.phase && nat_le (deadline link) now) where
  cases : (b : Bool) → IsAt now link (if b then record link { phase = phase.Closed; closed_at = deadline link; clock = now } else record link { clock = now })
  cases true = record { clock = refl; identity = refl }
  cases false = record { clock = refl; identity = refl }

limited_at : (now : ℕ) (old link : LinkState) → IsAt now old link → IsAt now old (limited link).link
unfolding limited telling sending
limited_at now old link is = cases (is_open link.phase && nat_le connection_limit link.sent) where
  cases : (b : Bool) → IsAt now old (if b then telling reason.Sequence link else silent link).link
  cases true = record { clock = is.clock; identity = is.identity }
  cases false = is

entered_at : (now : ℕ) (link : LinkState) → IsAt now link (entered now link).link
unfolding entered
entered_at now link = limited_at now link (settled now link) (settled_at now link)

beating_at : (now : ℕ) (old link : LinkState) → IsAt now old link → IsAt now old (beating link).link
unfolding beating sending
beating_at now old link is = either (λ (step : Step). IsAt now old step.link) (is_up link.phase && nat_le heartbeat_interval (link.clock - link.sent_at)) _ _
    (record { clock = is.clock; identity = is.identity }) is

ticking_at : (now : ℕ) (link : LinkState) → IsAt now link (ticking now link).link
unfolding ticking
ticking_at now link = beating_at now link (entered now link).link (entered_at now link)

-- ---- an opening

-- a client that asks for a connection waits for the answer
asked_starts : (now : ℕ) (link : LinkState) → link.clock ≡ now → state_at now (requesting link).link ≡ state.Start
unfolding requesting beginning sending state_at deadline
asked_starts now link at = ap (λ b. if b then state.Start else if nat_lt now (link.clock + time_limit + quiet_time) then state.Quiet else state.Down)
    (lt-ltb now (link.clock + time_limit) (omega (arith, at)))

opening_link : (now : ℕ) (link : LinkState) (b : Bool) → may_open (entered now link).link ≡ b →
    (opening now link).link ≡ (if b then requesting (entered now link).link else silent (entered now link).link).link
unfolding opening
opening_link now link b is = ap (λ may. (if may then requesting (entered now link).link else silent (entered now link).link).link) is

not_down : (now : ℕ) (link : LinkState) → is_client link.identity.role ≡ true → state_at now (opening now link).link ≡ state.Down → ⊥
not_down now link opens down = cases (may_open l) refl where
  l : LinkState
  l = (entered now link).link

  at : IsAt now link l
  at = entered_at now link

  cases : (b : Bool) → may_open l ≡ b → ⊥
  cases true may = false≢true (ap is_down (sym (asked_starts now l at.clock) ∙ ap (λ (k : LinkState). state_at now k) (sym (opening_link now link true may)) ∙ down))
  cases false none = false≢true (sym none ∙ ap (λ c. c && is_down (state_at l.clock l)) (ap (λ (i : Identity). is_client i.role) at.identity ∙ opens)
      ∙ ap (λ c. is_down (state_at c l)) at.clock ∙ ap (λ (k : LinkState). is_down (state_at now k)) (sym (opening_link now link false none)) ∙ ap is_down down)

requesting_keeps : (link : LinkState) → (requesting link).link.identity ≡ link.identity
unfolding requesting beginning sending
requesting_keeps link = refl

opening_keeps : (now : ℕ) (link : LinkState) → (opening now link).link.identity ≡ link.identity
unfolding opening
opening_keeps now link =
    either (λ (step : Step). step.link.identity ≡ link.identity) (may_open (entered now link).link) _ _ (requesting_keeps (entered now link).link ∙ (entered_at now link).identity) (entered_at now link).identity

pub tick_keeps : (now : ℕ) (a : ClientSoFar) → (client_ticking now a).client.link.identity ≡ a.client.link.identity
unfolding client_ticking calling
tick_keeps now a = ap (λ (l : LinkState). l.identity) (fallen_link _) ∙ opening_keeps now (ticking now a.client.link).link ∙ (ticking_at now a.client.link).identity

pub none_down : (now : ℕ) (a : ClientSoFar) → is_client a.client.link.identity.role ≡ true → IsNotDown now (client_ticking now a).client.link
unfolding client_ticking calling
none_down now a opens down =
    let ticked : LinkState = (ticking now a.client.link).link
    in not_down now ticked (ap (λ (i : Identity). is_client i.role) (ticking_at now a.client.link).identity ∙ opens)
    (ap (state_at now) (sym (fallen_link _)) ∙ down)

-- ---- a link that is down

record IsDownAt (now : ℕ) (link : LinkState) : Type 0 where
  closed : is_open link.phase ≡ false
  quiet : link.closed_at + quiet_time ≤ now
  clock : link.clock ≡ now

open_is_not_down : (p : Phase) → is_open p ≡ true → open_state p ≡ state.Down → ⊥
open_is_not_down phase.Closed is down = false≢true is
open_is_not_down phase.Start is down = false≢true (ap is_down down)
open_is_not_down phase.Up is down = false≢true (ap is_down down)
open_is_not_down phase.RetransmissionRequested is down = false≢true (ap is_down down)
open_is_not_down phase.RetransmissionRunning is down = false≢true (ap is_down down)

past_quiet : (now : ℕ) (link : LinkState) → state_at now link ≡ state.Down → (is_open link.phase && nat_lt now (deadline link) ≡ false) × (deadline link + quiet_time ≤ now)
unfolding state_at
past_quiet now link down = cases (is_open link.phase) refl (nat_lt now (deadline link)) (nat_lt now (deadline link + quiet_time)) refl down where
  cases : (o : Bool) → is_open link.phase ≡ o → (alive quiet : Bool) → nat_lt now (deadline link + quiet_time) ≡ quiet →
      (if o && alive then open_state link.phase else if quiet then state.Quiet else state.Down) ≡ state.Down → (o && alive ≡ false) × (deadline link + quiet_time ≤ now)
  cases true is true quiet ends is_down_now = absurd (open_is_not_down link.phase is is_down_now)
  cases true is false true ends is_down_now = absurd (false≢true (ap is_down is_down_now))
  cases true is false false ends is_down_now = (refl, ltb-false now (deadline link + quiet_time) ends)
  cases false is alive true ends is_down_now = absurd (false≢true (ap is_down is_down_now))
  cases false is alive false ends is_down_now = (refl, ltb-false now (deadline link + quiet_time) ends)

deadline_closed : (link : LinkState) → is_open link.phase ≡ false → deadline link ≡ link.closed_at
unfolding deadline
deadline_closed link is = ap (λ b. if b then link.own_stamp + time_limit else link.closed_at) is

settled_down : (now : ℕ) (link : LinkState) → state_at now link ≡ state.Down → IsDownAt now (settled now link)
unfolding settled
settled_down now link down = cases (is_open link.phase) refl where
  past : (is_open link.phase && nat_lt now (deadline link) ≡ false) × (deadline link + quiet_time ≤ now)
  past = past_quiet now link down

  Ends : Bool → Type 0
  Ends b = IsDownAt now (if b then record link { phase = phase.Closed; closed_at = deadline link; clock = now } else record link { clock = now })

  cases : (o : Bool) → is_open link.phase ≡ o → Ends (is_open link.phase && nat_le (deadline link) now)
  cases true is =
      let over : nat_le (deadline link) now ≡ true = le-leb (deadline link) now (ltb-false now (deadline link) (sym (ap (λ o. o && nat_lt now (deadline link)) is) ∙ past.0))
      in subst Ends (sym (ap (λ o. o && nat_le (deadline link) now) is ∙ over)) (record { closed = refl; quiet = past.1; clock = refl })
  cases false is =
      subst Ends (sym (ap (λ o. o && nat_le (deadline link) now) is)) (record { closed = is; quiet = omega (arith, past.1, deadline_closed link is); clock = refl })

settled_again : (now : ℕ) (link : LinkState) → IsDownAt now link → IsDownAt now (settled now link)
unfolding settled
settled_again now link is = subst Ends (sym (ap (λ o. o && nat_le (deadline link) now) is.closed)) (record { closed = is.closed; quiet = is.quiet; clock = refl }) where
  Ends : Bool → Type 0
  Ends b = IsDownAt now (if b then record link { phase = phase.Closed; closed_at = deadline link; clock = now } else record link { clock = now })

entered_down : (now : ℕ) (link : LinkState) → IsDownAt now (settled now link) → IsDownAt now (entered now link).link
unfolding entered limited
entered_down now link is = subst (λ b. IsDownAt now (if b then telling reason.Sequence (settled now link) else silent (settled now link)).link)
    (sym (ap (λ o. o && nat_le connection_limit (settled now link).sent) is.closed)) is

beating_down : (now : ℕ) (link : LinkState) → IsDownAt now link → IsDownAt now (beating link).link
unfolding beating
beating_down now link is = picked_other (λ (step : Step). IsDownAt now step.link) (is_up link.phase && nat_le heartbeat_interval (link.clock - link.sent_at)) _ _
    (ap (λ o. o && nat_le heartbeat_interval (link.clock - link.sent_at)) (closed_not_up link.phase is.closed)) is

ticked_down : (now : ℕ) (link : LinkState) → state_at now link ≡ state.Down → IsDownAt now (ticking now link).link
unfolding ticking
ticked_down now link down = beating_down now (entered now link).link (entered_down now link (settled_down now link down))

down_state : (now : ℕ) (link : LinkState) → IsDownAt now link → state_at link.clock link ≡ state.Down
unfolding state_at
down_state now link is =
    let past : nat_lt link.clock (deadline link + quiet_time) ≡ false = le-ltb link.clock (deadline link + quiet_time) (omega (arith, is.quiet, is.clock, deadline_closed link is.closed))
    in ap (λ o. if o && nat_lt link.clock (deadline link) then open_state link.phase else if nat_lt link.clock (deadline link + quiet_time) then state.Quiet else state.Down) is.closed
    ∙ ap (λ b. if b then state.Quiet else state.Down) past

pub down_asks : (now : ℕ) (a : ClientSoFar) → is_client a.client.link.identity.role ≡ true → AsksWhereDown now a (client_ticking now a)
unfolding client_ticking calling
down_asks now a opens down =
    ap (state_at now) (fallen_link _) ∙ ap (state_at now) (opening_link now ticked true may) ∙ asked_starts now asking (entered_at now ticked).clock
  where
    ticked : LinkState
    ticked = (ticking now a.client.link).link

    asking : LinkState
    asking = (entered now ticked).link

    is_down_still : IsDownAt now asking
    is_down_still = entered_down now ticked (settled_again now ticked (ticked_down now a.client.link down))

    may : may_open asking ≡ true
    may = ap (λ c. c && is_down (state_at asking.clock asking)) (ap (λ (i : Identity). is_client i.role) ((entered_at now ticked).identity ∙ (ticking_at now a.client.link).identity) ∙ opens)
        ∙ ap is_down (down_state now asking is_down_still)
