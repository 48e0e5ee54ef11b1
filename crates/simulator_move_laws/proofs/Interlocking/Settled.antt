-- What settling leaves of a client's link.
use Rattle.std.proofs.Common.{◌≡◌, ℕ, ◌+◌, Bool, true, false, if◌then◌else◌, refl, sym, ◌∙◌, arith}
use Rattle.std.specs.Prelude.{◌&&◌, nat_le, nat_lt}
use Rattle.std.proofs.lemmas.Bool.{true≢false, false≢true, leb-true, ltb-true}
use Rattle.ixl_spec.specs.rasta_core.Clock.{deadline, open_state, settled, state_at}
use Rattle.ixl_spec.specs.rasta_core.Parameters.{quiet_time}
use Rattle.ixl_spec.specs.rasta_core.State.{LinkState, confirmed_items, is_open, is_up}
use Rattle.ixl_spec.specs.rasta_core.phase.Phase.TheVariants as link_phase
use Rattle.ixl_spec.specs.rasta_core.phase.State.TheVariants as state
use Rattle.simulator_move_laws.specs.EndsSeen.{client_in}
use Rattle.simulator_move_laws.specs.Link.{client_at, is_inside}
use Rattle.simulator_move_laws.proofs.Interlocking.Tests.{by_test, both_true}

-- a link whose time has come isn't in a connection
pub late_is_out : (now : ℕ) (link : LinkState) → is_open link.phase && nat_le (deadline link) now ≡ true → is_inside now link ≡ false
late_is_out now link late = cases (is_inside now link) refl where
  cases : (b : Bool) → is_inside now link ≡ b → is_inside now link ≡ false
  cases true e = absurd (omega (arith, leb-true (deadline link) now (both_true (is_open link.phase) (nat_le (deadline link) now) late).1, ltb-true now (deadline link) (both_true (is_open link.phase) (nat_lt now (deadline link)) e).1))
  cases false e = e

pub inside_settled : (now : ℕ) (link : LinkState) → is_inside now (settled now link) ≡ true → is_inside now link ≡ true
unfolding settled deadline
inside_settled now link = by_test (λ (l : LinkState). is_inside now l ≡ true → is_inside now link ≡ true) (is_open link.phase && nat_le (deadline link) now)
    (record link { phase = link_phase.Closed; closed_at = deadline link; clock = now }) (record link { clock = now }) (λ e. λ inside. absurd (false≢true inside)) (λ e. λ inside. inside)

pub place_settled : (now : ℕ) (link : LinkState) → client_at now (settled now link) ≡ client_at now link
unfolding settled deadline state_at
place_settled now link = by_test (λ (l : LinkState). client_at now l ≡ client_at now link) (is_open link.phase && nat_le (deadline link) now)
    (record link { phase = link_phase.Closed; closed_at = deadline link; clock = now }) (record link { clock = now }) (λ late. out late) (λ e. refl)
  where
    out : is_open link.phase && nat_le (deadline link) now ≡ true → client_at now (record link { phase = link_phase.Closed; closed_at = deadline link; clock = now }) ≡ client_at now link
    out late = by_test (λ s. client_in (if nat_lt now (deadline link + quiet_time) then state.Quiet else state.Down) ≡ client_in s) (is_inside now link) (open_state link.phase)
        (if nat_lt now (deadline link + quiet_time) then state.Quiet else state.Down) (λ inside. absurd (true≢false (sym inside ∙ late_is_out now link late))) (λ e. refl)

pub confirmed_settled : (now : ℕ) (link : LinkState) → confirmed_items (settled now link) ≡ confirmed_items link
unfolding settled
confirmed_settled now link = by_test (λ (l : LinkState). confirmed_items l ≡ confirmed_items link) (is_open link.phase && nat_le (deadline link) now)
    (record link { phase = link_phase.Closed; closed_at = deadline link; clock = now }) (record link { clock = now }) (λ e. refl) (λ e. refl)

pub up_settled : (now : ℕ) (link : LinkState) → is_up (settled now link).phase ≡ true → is_up link.phase ≡ true
unfolding settled
up_settled now link = by_test (λ (l : LinkState). is_up l.phase ≡ true → is_up link.phase ≡ true) (is_open link.phase && nat_le (deadline link) now)
    (record link { phase = link_phase.Closed; closed_at = deadline link; clock = now }) (record link { clock = now }) (λ e. λ up. absurd (false≢true up)) (λ e. λ up. up)

-- inside a connection it keeps its phase
pub phase_settled : (now : ℕ) (link : LinkState) → is_inside now (settled now link) ≡ true → (settled now link).phase ≡ link.phase
unfolding settled
phase_settled now link = by_test (λ (l : LinkState). is_inside now l ≡ true → l.phase ≡ link.phase) (is_open link.phase && nat_le (deadline link) now)
    (record link { phase = link_phase.Closed; closed_at = deadline link; clock = now }) (record link { clock = now }) (λ e. λ inside. absurd (false≢true inside)) (λ e. λ inside. refl)
