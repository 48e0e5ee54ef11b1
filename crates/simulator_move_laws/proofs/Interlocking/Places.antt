-- Where a client is by its clock.
use Rattle.std.proofs.Common.{◌≡◌, ℕ, ◌+◌, true, false, if◌then◌else◌, refl, sym, ◌∙◌}
use Rattle.std.specs.Prelude.{nat_lt}
use Rattle.std.proofs.lemmas.Bool.{true≢false, false≢true}
use Rattle.ixl_spec.specs.rasta_core.Clock.{deadline, open_state, state_at}
use Rattle.ixl_spec.specs.rasta_core.Parameters.{quiet_time}
use Rattle.ixl_spec.specs.rasta_core.State.{LinkState, is_open, is_up}
use Rattle.ixl_spec.specs.rasta_core.phase.Phase.{Phase}
use Rattle.ixl_spec.specs.rasta_core.phase.Phase.TheVariants as phase
use Rattle.ixl_spec.specs.rasta_core.phase.State.TheVariants as state
use Rattle.simulator_machine.specs.Link.{Client, Quiet, Down, Start, Up}
use Rattle.simulator_move_laws.specs.EndsSeen.{client_in}
use Rattle.simulator_move_laws.specs.Link.{client_at, is_inside}
use Rattle.simulator_move_laws.proofs.Interlocking.Tests.{by_test, both_true, true_both}

open_place : (P : Client → Type 0) (p : Phase) → is_open p ≡ true → (is_up p ≡ true → P Up) → (is_up p ≡ false → P Start) → P (client_in (open_state p))
open_place P phase.Closed inside up start = absurd (false≢true inside)
open_place P phase.Start inside up start = start refl
open_place P phase.Up inside up start = up refl
open_place P phase.RetransmissionRequested inside up start = up refl
open_place P phase.RetransmissionRunning inside up start = up refl

-- the four places
pub by_place : (P : Client → Type 0) (now : ℕ) (link : LinkState) → (is_inside now link ≡ true → is_up link.phase ≡ true → P Up) → (is_inside now link ≡ true → is_up link.phase ≡ false → P Start) →
    (is_inside now link ≡ false → P Quiet) → (is_inside now link ≡ false → state_at now link ≡ state.Down → P Down) → P (client_at now link)
unfolding state_at
by_place P now link up start quiet down =
    by_test (λ s. state_at now link ≡ s → P (client_in s)) (is_inside now link) (open_state link.phase) (if nat_lt now (deadline link + quiet_time) then state.Quiet else state.Down)
    (λ inside. λ is. open_place P link.phase (both_true (is_open link.phase) (nat_lt now (deadline link)) inside).0 (up inside) (start inside))
    (λ shut. by_test (λ s. state_at now link ≡ s → P (client_in s)) (nat_lt now (deadline link + quiet_time)) state.Quiet state.Down (λ e. λ is. quiet shut) (λ e. λ is. down shut is))
    refl

up_is_inside : (now : ℕ) (link : LinkState) → client_at now link ≡ Up → (is_inside now link ≡ true) × (is_up link.phase ≡ true)
up_is_inside now link = by_place (λ c. c ≡ Up → (is_inside now link ≡ true) × (is_up link.phase ≡ true)) now link
    (λ inside up. λ e. (inside, up)) (λ inside down. λ e. absurd (cc (e))) (λ shut. λ e. absurd (cc (e))) (λ shut is. λ e. absurd (cc (e)))

pub inside_up : (now : ℕ) (link : LinkState) → is_inside now link ≡ true → is_up link.phase ≡ true → client_at now link ≡ Up
inside_up now link inside up = by_place (λ c. c ≡ Up) now link
    (λ is e. refl) (λ is down. absurd (true≢false (sym up ∙ down))) (λ shut. absurd (true≢false (sym inside ∙ shut))) (λ shut is. absurd (true≢false (sym inside ∙ shut)))

pub inside_start : (now : ℕ) (link : LinkState) → is_inside now link ≡ true → is_up link.phase ≡ false → client_at now link ≡ Start
inside_start now link inside down = by_place (λ c. c ≡ Start) now link
    (λ is up. absurd (true≢false (sym up ∙ down))) (λ is e. refl) (λ shut. absurd (true≢false (sym inside ∙ shut))) (λ shut is. absurd (true≢false (sym inside ∙ shut)))

pub inside_open : (now : ℕ) (link : LinkState) → is_inside now link ≡ true → is_open link.phase ≡ true
inside_open now link inside = (both_true (is_open link.phase) (nat_lt now (deadline link)) inside).0

pub open_inside : (now : ℕ) (link : LinkState) → (is_open link.phase ≡ true → nat_lt now (deadline link) ≡ true) → is_open link.phase ≡ true → is_inside now link ≡ true
open_inside now link alive opened = true_both (is_open link.phase) (nat_lt now (deadline link)) opened (alive opened)
