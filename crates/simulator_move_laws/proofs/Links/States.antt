-- The state of an end at its clock.
use Rattle.std.proofs.Common.{◌≡◌, ◌⊎◌, inl, inr, ℕ, Bool, true, false, ◌&&◌, nat_le, nat_lt, ◌+◌, ◌*◌, refl, sym, ap, subst, ◌∙◌, arith}
use Rattle.std.specs.Prelude.{if◌then◌else◌}
use Rattle.std.proofs.lemmas.Bool.Decides.{nat_tests}
use Rattle.rasta_core.specs.Parameters.{quiet_time}
use Rattle.rasta_core.specs.Calls.{created}
use Rattle.rasta_core.specs.Clock.{deadline, open_state, settled, state_at}
use Rattle.rasta_core.specs.Ends.{EndState, reading_of}
use Rattle.rasta_core.specs.State.{LinkState, is_open, is_up}
use Rattle.rasta_core.specs.identity.Identity.{Identity}
use Rattle.rasta_core.specs.phase.Phase.{Phase}
use Rattle.rasta_core.specs.phase.Phase.TheVariants as phase
use Rattle.rasta_core.specs.phase.State.{State}
use Rattle.rasta_core.specs.phase.State.TheVariants as state
use Rattle.simulator_machine.specs.Link.{Quiet, Down, Start, Up}
use Rattle.simulator_move_laws.specs.EndsSeen.{client_in, client_of, is_inside, state_of}
use Rattle.simulator_move_laws.proofs.Links.Tests.{by_test}

-- where a link stands that is closed, or that is open at a clock to which it is settled
abbrev pub IsShut : LinkState → Type 0
IsShut link = is_open link.phase ≡ false

abbrev pub IsOpen : LinkState → Type 0
IsOpen link = is_open link.phase ≡ true

abbrev pub IsSettled : ℕ → LinkState → Type 0
IsSettled now link = settled now link ≡ link

not_le : (a b : ℕ) → nat_le a b ≡ false → nat_lt b a ≡ true
not_le a b e = grind (arith, nat_tests)

-- an open link that is settled is before its deadline
pub before_deadline : (now : ℕ) (link : LinkState) → IsSettled now link → IsOpen link → nat_lt now (deadline link) ≡ true
unfolding settled
before_deadline now link settles opened = choose (nat_le (deadline link) now) refl where
  closes : nat_le (deadline link) now ≡ true → is_open (settled now link).phase ≡ false
  closes e = ap (λ (b : Bool). is_open (if b then record link { phase = phase.Closed; closed_at = deadline link; clock = now } else record link { clock = now }).phase)
      (ap (λ (o : Bool). o && nat_le (deadline link) now) opened ∙ e)

  choose : (b : Bool) → nat_le (deadline link) now ≡ b → nat_lt now (deadline link) ≡ true
  choose true e = absurd (cc (closes e, ap (λ (l : LinkState). is_open l.phase) settles, opened))
  choose false e = not_le (deadline link) now e

pub state_open : (now : ℕ) (link : LinkState) → IsSettled now link → IsOpen link → state_at now link ≡ open_state link.phase
unfolding state_at
state_open now link settles opened =
    ap (λ (o : Bool). if o && nat_lt now (deadline link) then open_state link.phase else if nat_lt now (deadline link + quiet_time) then state.Quiet else state.Down) opened
    ∙ ap (λ (b : Bool). if b then open_state link.phase else if nat_lt now (deadline link + quiet_time) then state.Quiet else state.Down) (before_deadline now link settles opened)

abbrev pub IsOutside : State → Type 0
IsOutside s = (s ≡ state.Quiet) ⊎ (s ≡ state.Down)

pub state_shut : (now : ℕ) (link : LinkState) → IsShut link → IsOutside (state_at now link)
unfolding state_at
state_shut now link shut =
    subst (λ (o : Bool). IsOutside (if o && nat_lt now (deadline link) then open_state link.phase else if nat_lt now (deadline link + quiet_time) then state.Quiet else state.Down)) (sym shut)
    (by_test IsOutside (nat_lt now (deadline link + quiet_time)) state.Quiet state.Down (λ e. inl refl) (λ e. inr refl))

-- ---- the client

pub client_shut : (end : EndState) → IsShut end.link → (client_of end ≡ Quiet) ⊎ (client_of end ≡ Down)
client_shut end shut = choose (state_shut (reading_of end.clock) end.link shut) where
  choose : IsOutside (state_of end) → (client_of end ≡ Quiet) ⊎ (client_of end ≡ Down)
  choose (inl quiet) = inl (ap client_in quiet)
  choose (inr down) = inr (ap client_in down)

phase_up : (at : Phase) → is_up at ≡ true → client_in (open_state at) ≡ Up
phase_up phase.Closed e = absurd (cc e)
phase_up phase.Start e = absurd (cc e)
phase_up phase.Up e = refl
phase_up phase.RetransmissionRequested e = refl
phase_up phase.RetransmissionRunning e = refl

phase_start : (at : Phase) → is_open at ≡ true → is_up at ≡ false → client_in (open_state at) ≡ Start
phase_start phase.Closed o e = absurd (cc o)
phase_start phase.Start o e = refl
phase_start phase.Up o e = absurd (cc e)
phase_start phase.RetransmissionRequested o e = absurd (cc e)
phase_start phase.RetransmissionRunning o e = absurd (cc e)

pub up_open : (at : Phase) → is_up at ≡ true → is_open at ≡ true
up_open phase.Closed e = absurd (cc e)
up_open phase.Start e = absurd (cc e)
up_open phase.Up e = refl
up_open phase.RetransmissionRequested e = refl
up_open phase.RetransmissionRunning e = refl

pub client_up : (end : EndState) → IsSettled (reading_of end.clock) end.link → is_up end.link.phase ≡ true → client_of end ≡ Up
client_up end settles e = ap client_in (state_open (reading_of end.clock) end.link settles (up_open end.link.phase e)) ∙ phase_up end.link.phase e

pub client_start : (end : EndState) → IsSettled (reading_of end.clock) end.link → IsOpen end.link → is_up end.link.phase ≡ false → client_of end ≡ Start
client_start end settles o e = ap client_in (state_open (reading_of end.clock) end.link settles o) ∙ phase_start end.link.phase o e

in_down : (s : State) → client_in s ≡ Down → s ≡ state.Down
in_down state.Quiet e = cc
in_down state.Down e = refl
in_down state.Start e = cc
in_down state.Up e = cc
in_down state.RetransmissionRequested e = cc
in_down state.RetransmissionRunning e = cc

pub is_down : (end : EndState) → client_of end ≡ Down → state_of end ≡ state.Down
is_down end e = in_down (state_of end) e

-- what a client that is seen as up says of its link
is_up_state : (s : State) → client_in s ≡ Up → IsOutside s → ⊥
is_up_state s e (inl quiet) = cc
is_up_state s e (inr down) = cc

pub up_is_up : (end : EndState) → IsSettled (reading_of end.clock) end.link → client_of end ≡ Up → is_up end.link.phase ≡ true
up_is_up end settles e = by_phase (is_open end.link.phase) (is_up end.link.phase) refl refl where
  by_phase : (o u : Bool) → is_open end.link.phase ≡ o → is_up end.link.phase ≡ u → is_up end.link.phase ≡ true
  by_phase false u opened up = absurd (is_up_state (state_of end) e (state_shut (reading_of end.clock) end.link opened))
  by_phase true false opened up = absurd (cc (e, client_start end settles opened up))
  by_phase true true opened up = up

-- ---- inside

open_inside : (at : Phase) → is_open at ≡ true → is_inside (open_state at) ≡ true
open_inside phase.Closed o = absurd (cc o)
open_inside phase.Start o = refl
open_inside phase.Up o = refl
open_inside phase.RetransmissionRequested o = refl
open_inside phase.RetransmissionRunning o = refl

pub inside_open : (end : EndState) → IsSettled (reading_of end.clock) end.link → IsOpen end.link → is_inside (state_of end) ≡ true
inside_open end settles o = ap is_inside (state_open (reading_of end.clock) end.link settles o) ∙ open_inside end.link.phase o

pub inside_shut : (end : EndState) → IsShut end.link → is_inside (state_of end) ≡ false
inside_shut end shut = choose (state_shut (reading_of end.clock) end.link shut) where
  choose : IsOutside (state_of end) → is_inside (state_of end) ≡ false
  choose (inl quiet) = ap is_inside quiet
  choose (inr down) = ap is_inside down

-- ---- an end that was just made

whole : (clock : ℕ) → reading_of (clock * 1000) ≡ clock
whole clock = omega arith

quiet_still : (now : ℕ) → nat_lt now (now + 6000) ≡ true
quiet_still now = grind (arith, nat_tests)

created_quiet : (identity : Identity) (first now : ℕ) → state_at now (created identity first now) ≡ state.Quiet
unfolding state_at created deadline
created_quiet identity first now = ap (λ (b : Bool). if b then state.Quiet else state.Down) (quiet_still now)

pub made_quiet : (identity : Identity) (first now : ℕ) → state_at (reading_of (now * 1000)) (created identity first now) ≡ state.Quiet
made_quiet identity first now = ap (λ (n : ℕ). state_at n (created identity first now)) (whole now) ∙ created_quiet identity first now
