-- What the state of a ready link says of where it stands.
use Rattle.std.proofs.Common.{◌≡◌, ℕ, ◌⊎◌, inl, inr, ◌∙◌, ◌+◌, ◌-◌, ◌^◌, ◌<◌, ◌≤◌, min, Bool, true, false, ◌&&◌, nat_le, nat_lt, if◌then◌else◌, refl, ap, subst, arith, ltb-false, leb-true, leb-false}
use Rattle.std.proofs.lemmas.Bool.Decides.{nat_tests}
use Rattle.rasta_core_spec.specs.Parameters.{time_limit, quiet_time, connection_limit}
use Rattle.rasta_core_spec.specs.State.{LinkState, is_open, is_up, is_asking, is_client}
use Rattle.rasta_core_spec.specs.Clock.{settled, deadline, open_state, state_at}
use Rattle.rasta_core_spec.specs.PdusHandedOut.{silent, telling, limited, entered, closed}
use Rattle.rasta_core_spec.specs.phase.State.{State}
use Rattle.rasta_core_spec.specs.phase.State.TheVariants as state
use Rattle.rasta_core_spec.specs.reason.Reason.TheVariants as reason
use Rattle.rasta_core.specs.TimedEnds.{Standing, Outside, IsOutside, closed_at}
use Rattle.rasta_core.proofs.Phases.{start_asking, up_up, requested_up, running_up, down_closed}
use Rattle.rasta_core.specs.Invariant.{IsSound}

-- a link that is settled at its clock
pub record IsReady (link : LinkState) : Type 0 where
  pub sound : IsSound link
  pub young : is_open link.phase ≡ true → link.clock < link.own_stamp + time_limit

-- an end that is down
pub record IsDownAt (now : ℕ) (standing : Standing) : Type 0 where
  pub is_outside : IsOutside standing
  pub quiet : closed_at standing + quiet_time ≤ now

true_or : (b : Bool) → (b ≡ true) ⊎ (b ≡ false)
true_or true = inl refl
true_or false = inr refl

pub and_first : (a b : Bool) → (a && b) ≡ true → a ≡ true
and_first true b e = refl
and_first false b e = cc

pub and_second : (a b : Bool) → (a && b) ≡ true → b ≡ true
and_second true b e = e
and_second false b e = cc

pub and_false : (a b : Bool) → b ≡ false → (a && b) ≡ false
and_false true b e = e
and_false false b e = refl

not_over : (b : Bool) (own closed now : ℕ) → (b ≡ true → now < own + time_limit) → (b && nat_le (if b then own + time_limit else closed) now) ≡ false
not_over false own closed now young = refl
not_over true own closed now young = le_false _ _ (young refl)
  where
    le_false : (a b : ℕ) → b < a → nat_le a b ≡ false
    le_false a b h = grind (arith, nat_tests)

pub settled_same : (l : LinkState) → IsReady l → settled l.clock l ≡ l
unfolding settled deadline
settled_same l ready = ap (λ (b : Bool). if b then record (closed l) { closed_at = deadline l } else l) (not_over (is_open l.phase) l.own_stamp l.closed_at l.clock ready.young)

-- each call begins with nothing, or closes because the limit is reached
pub entering : (l : LinkState) → IsReady l → (entered l.clock l ≡ silent l) ⊎ ((is_open l.phase ≡ true) × (entered l.clock l ≡ telling reason.Sequence l))
unfolding entered limited
entering l ready = choose (is_open l.phase && nat_le connection_limit l.sent) refl
  where
    same : limited (settled l.clock l) ≡ limited l
    same = ap limited (settled_same l ready)

    choose : (b : Bool) → (is_open l.phase && nat_le connection_limit l.sent) ≡ b → (entered l.clock l ≡ silent l) ⊎ ((is_open l.phase ≡ true) × (entered l.clock l ≡ telling reason.Sequence l))
    choose true e = inr (and_first _ _ e, same ∙ ap (λ (b : Bool). if b then telling reason.Sequence l else silent l) e)
    choose false e = inl (same ∙ ap (λ (b : Bool). if b then telling reason.Sequence l else silent l) e)

-- ---- the state

abbrev pub Tells : LinkState → State → Type 0
Tells l state.Quiet = Unit {0}
Tells l state.Down = (is_open l.phase ≡ false) × IsDownAt l.clock (Outside l.closed_at)
Tells l state.Start = (is_open l.phase ≡ true) × (is_asking l ≡ is_client l.identity.role)
Tells l state.Up = is_up l.phase ≡ true
Tells l state.RetransmissionRequested = is_up l.phase ≡ true
Tells l state.RetransmissionRunning = is_up l.phase ≡ true

tells_open : (l : LinkState) (s : State) → open_state l.phase ≡ s → is_open l.phase ≡ true → Tells l s
tells_open l state.Quiet e o = tt
tells_open l state.Down e o = let c = down_closed l e in cc
tells_open l state.Start e o = (o, start_asking l e)
tells_open l state.Up e o = up_up l e
tells_open l state.RetransmissionRequested e o = requested_up l e
tells_open l state.RetransmissionRunning e o = running_up l e

down_at : (b : Bool) (own closed now : ℕ) → b ≡ false → (if b then own + time_limit else closed) + quiet_time ≤ now → IsDownAt now (Outside closed)
down_at true own closed now e over = cc
down_at false own closed now e over = record { is_outside = tt; quiet = over }

closed_if : (l : LinkState) → IsReady l → (is_open l.phase && nat_lt l.clock (deadline l)) ≡ false → is_open l.phase ≡ false
unfolding deadline
closed_if l ready e = choose (is_open l.phase) refl
  where
    choose : (b : Bool) → is_open l.phase ≡ b → b ≡ false
    choose false o = refl
    choose true o = absurd (contradiction (subst (λ (b : Bool). (b && nat_lt l.clock (if b then l.own_stamp + time_limit else l.closed_at)) ≡ false) o e) (ready.young o))
      where
        contradiction : nat_lt l.clock (l.own_stamp + time_limit) ≡ false → l.clock < l.own_stamp + time_limit → ⊥
        contradiction f y = omega (arith, y, ltb-false _ _ f)

pub tells : (l : LinkState) → IsReady l → Tells l (state_at l.clock l)
unfolding state_at deadline
tells l ready = choose (is_open l.phase && nat_lt l.clock (deadline l)) (nat_lt l.clock (deadline l + quiet_time)) refl refl
  where
    choose : (b c : Bool) → (is_open l.phase && nat_lt l.clock (deadline l)) ≡ b → nat_lt l.clock (deadline l + quiet_time) ≡ c
        → Tells l (if b then open_state l.phase else if c then state.Quiet else state.Down)
    choose true c eb ec = tells_open l (open_state l.phase) refl (and_first _ _ eb)
    choose false true eb ec = tt
    choose false false eb ec =
        let shut = closed_if l ready eb in
        (shut, down_at (is_open l.phase) l.own_stamp l.closed_at l.clock shut (ltb-false _ _ ec))

-- a link that closed at this very reading is quiet
pub calm : (l : LinkState) → is_open l.phase ≡ false → l.closed_at ≡ l.clock → state_at l.clock l ≡ state.Quiet
unfolding state_at deadline
calm l shut now = choose (is_open l.phase && nat_lt l.clock (deadline l)) (nat_lt l.clock (deadline l + quiet_time)) refl refl
  where
    late : (b : Bool) → b ≡ false → l.clock < (if b then l.own_stamp + time_limit else l.closed_at) + quiet_time
    late true e = cc
    late false e = omega (arith, now)

    choose : (b c : Bool) → (is_open l.phase && nat_lt l.clock (deadline l)) ≡ b → nat_lt l.clock (deadline l + quiet_time) ≡ c
        → (if b then open_state l.phase else if c then state.Quiet else state.Down) ≡ state.Quiet
    choose true c eb ec = let o : is_open l.phase ≡ true = and_first (is_open l.phase) (nat_lt l.clock (deadline l)) eb in cc
    choose false true eb ec = refl
    choose false false eb ec = absurd (omega (arith, late (is_open l.phase) shut, ltb-false _ _ ec))
