-- The clock of a release that is over was noted in a step in which the release was accepted.
use Rattle.std.proofs.Common.{◌≡◌, ◌⊎◌, inl, inr, ℕ, zero, suc, ◌≤◌, Bool, true, false, if◌then◌else◌, List, [], ◌∷◌, length, drop, refl, ap, sym, ◌∙◌, subst}
use Rattle.std.specs.Prelude.{◌==◌, Option, Some, None, slice_get}
use Rattle.std.specs.Option.{option_or}
use Rattle.std.proofs.lemmas.Bool.{eq-eqb, eqb-false, eqb-true}
use Rattle.ixl_state.specs.State.{StateView}
use Rattle.ixl_state.specs.layout.declared.ids.RouteId.{RouteId}
use Rattle.ixl_state.specs.release.Approach.{approach_end}
use Rattle.ixl_state.specs.ixl_spec.State.{IxlState, RouteState}
use Rattle.ixl_state.specs.ixl_spec.Step.{Accepted, Commands, Datagram, Input, Received, Refused, Reply, Tick, Ticked}
use Rattle.ixl_state.specs.ixl_spec.StepSoFar.{StepSoFar}
use Rattle.ixl_state.specs.ixl_spec.declared.command.Command.TheVariants as commands
use Rattle.ixl_state.specs.First.{key_of}
use Rattle.ixl_laws.specs.GivenOnce.{InNone, OneAfterAnother, SetsAnew, StepTaken}
use Rattle.ixl_laws.specs.Operations.{FreesByRelease, IsReleasedBefore, IsUnreleased, ReleaseGiven, last_of, released_after}
use Rattle.ixl_laws.specs.WholeStep.{TurnTaken, heard}
use Rattle.ixl_laws.proofs.KeptBehind.{KeptSince, nothing_yet, stepped_stays}
use Rattle.ixl_laws.proofs.PickedByTest.{none_is, some_same}
use Rattle.ixl_laws.proofs.Released.{heard_clock, was_kept}
use Rattle.ixl_laws.proofs.TurnFollows.{turn_kept}
use Rattle.ixl_laws.proofs.TurnKeeps.{up_to}

-- a route is kept as released at this clock
abbrev IsReleasedAt : ℕ → ℕ → IxlState → Type 0
IsReleasedAt number clock ixl = (route : RouteState) × (slice_get ixl.routes number ≡ Some route) × (route.released ≡ Some clock)

-- it was so before the input, or the input is its release
abbrev IsNoted : ℕ → Input → Reply → ℕ → Option ℕ → ℕ → Type 0
IsNoted now input answer number before clock =
    (before ≡ Some clock) ⊎ ((input ≡ Commands (commands.Release (record { 0 = number }))) × (answer ≡ Accepted) × (now ≡ clock))

by_release : (now number clock : ℕ) (route : RouteId) (before : Option ℕ) (same : Bool) → (route.0 == number) ≡ same → (if same then option_or before (Some now) else before) ≡ Some clock →
    IsNoted now (Commands (commands.Release route)) Accepted number before clock
by_release now number clock route before false apart is = inl is
by_release now number clock route (Some noted) true here is = inl is
by_release now number clock route None true here is = inr (ap (λ n. Commands (commands.Release (record { 0 = n }))) (eqb-true route.0 number here), refl, some_same is)

by_request : (now number clock : ℕ) (route : RouteId) (before : Option ℕ) (same : Bool) → (if same then None else before) ≡ Some clock → IsNoted now (Commands (commands.Request route)) Accepted number before clock
by_request now number clock route before true is = absurd (none_is is)
by_request now number clock route before false is = inl is

noted : (now : ℕ) (input : Input) (answer : Reply) (number : ℕ) (before : Option ℕ) (clock : ℕ) → released_after now input answer number before ≡ Some clock → IsNoted now input answer number before clock
noted now Tick answer number before clock is = inl is
noted now (Datagram bytes) answer number before clock is = inl is
noted now (Commands (commands.Request route)) Accepted number before clock is = by_request now number clock route before (route.0 == number) is
noted now (Commands (commands.Request route)) Ticked number before clock is = inl is
noted now (Commands (commands.Request route)) (Received verdict) number before clock is = inl is
noted now (Commands (commands.Request route)) (Refused cause) number before clock is = inl is
noted now (Commands (commands.Release route)) Accepted number before clock is = by_release now number clock route before (route.0 == number) refl is
noted now (Commands (commands.Release route)) Ticked number before clock is = inl is
noted now (Commands (commands.Release route)) (Received verdict) number before clock is = inl is
noted now (Commands (commands.Release route)) (Refused cause) number before clock is = inl is
noted now (Commands (commands.Cancel route)) answer number before clock is = inl is
noted now (Commands commands.Resume) answer number before clock is = inl is
noted now (Commands (commands.Move point side)) answer number before clock is = inl is
noted now (Commands (commands.Close named)) answer number before clock is = inl is
noted now (Commands (commands.Open named)) answer number before clock is = inl is

-- a request that is accepted leaves none
none_by_request : (now number clock : ℕ) (before : Option ℕ) → released_after now (Commands (commands.Request (record { 0 = number }))) Accepted number before ≡ Some clock → ⊥
none_by_request now number clock before is = none_is (ap (λ same. if same then None else before) (sym (eq-eqb number number refl)) ∙ is)

-- ---- steps in which a route isn't set anew

none_sets : (number : ℕ) → InNone (SetsAnew number) []
none_sets number place step is sets = none_is is

none_set : (number : ℕ) (first : StepTaken) (others : List StepTaken) → (SetsAnew number first → ⊥) → InNone (SetsAnew number) others → InNone (SetsAnew number) (first ∷ others)
none_set number first others unset rest zero step is sets = unset (subst (SetsAnew number) (sym (some_same is)) sets)
none_set number first others unset rest (suc place) step is sets = rest place step is sets

module _ (number clock : ℕ) where
  -- its release was accepted at this clock
  abbrev IsGiven : StepTaken → Type 0
  IsGiven step = ReleaseGiven number step × (step.now ≡ clock)

  -- it was so before the step, or the step is its release; and the step doesn't set it anew
  abbrev IsFrom : StepTaken → Type 0
  IsFrom step = (SetsAnew number step → ⊥) × (IsReleasedAt number clock step.old.state.ixl ⊎ IsGiven step)

  heard_from : (step : StepTaken) → IsReleasedAt number clock (heard step.now step.input step.old).ixl → IsFrom step
  heard_from step (route, is, released) = (unset, by_input (noted step.now step.input step.answer number before.0.released clock after)) where
    before : (old : RouteState) × (slice_get step.old.state.ixl.routes number ≡ Some old)
    before = was_kept step.now step.old.state.sited.table (key_of step.old.state.sited.site) step.input step.old.state.ixl number route is

    after : released_after step.now step.input step.answer number before.0.released ≡ Some clock
    after = ap (λ a. released_after step.now step.input a number before.0.released) step.made.answered
        ∙ sym (heard_clock step.now step.old.state.sited.table (key_of step.old.state.sited.site) step.input step.old.state.ixl number before.0 route before.1 is) ∙ released

    unset : SetsAnew number step → ⊥
    unset (input, answer) = none_by_request step.now number clock before.0.released
        (ap (λ a. released_after step.now (Commands (commands.Request (record { 0 = number }))) a number before.0.released) (sym answer)
        ∙ ap (λ i. released_after step.now i step.answer number before.0.released) (sym input) ∙ after)

    by_input : IsNoted step.now step.input step.answer number before.0.released clock → IsReleasedAt number clock step.old.state.ixl ⊎ IsGiven step
    by_input (inl was) = inl (before.0, before.1, was)
    by_input (inr (input, answer, now)) = inr ((input, answer), now)

  new_from : (step : StepTaken) → IsReleasedAt number clock step.new.state.ixl → IsFrom step
  new_from step (route, is, released) =
      let mid = (stepped_stays step.now step.old.state.sited.table (key_of step.old.state.sited.site) step.input step.old.state.ixl).follow number route (ap (λ (ixl : IxlState). slice_get ixl.routes number) (sym step.made.ixl) ∙ is)
      in heard_from step (mid.0, mid.1, sym mid.2.released ∙ released)

  -- it was so before these steps, and none of them sets it anew
  abbrev WasBefore : StepTaken → List StepTaken → Type 0
  WasBefore first others = IsReleasedAt number clock first.old.state.ixl × InNone (SetsAnew number) (first ∷ others)

  -- among these steps is one in which it was, and none behind it sets it anew
  abbrev IsFound : List StepTaken → Type 0
  IsFound steps = (place : ℕ) × (step : StepTaken) × (slice_get steps place ≡ Some step) × IsGiven step × InNone (SetsAnew number) (drop (suc place) steps)

  first_from : (first : StepTaken) (others : List StepTaken) → InNone (SetsAnew number) others → IsFrom first → WasBefore first others ⊎ IsFound (first ∷ others)
  first_from first others rest (unset, inl was) = inl (was, none_set number first others unset rest)
  first_from first others rest (unset, inr given) = inr (0, first, refl, given, rest)

  last_from : (first : StepTaken) (others : List StepTaken) → OneAfterAnother first others → IsReleasedAt number clock (heard (last_of first others).now (last_of first others).input (last_of first others).old).ixl →
      WasBefore first others ⊎ IsFound (first ∷ others)
  last_from first [] chain is = first_from first [] (none_sets number) (heard_from first is)
  last_from first (next ∷ others) chain is = by_later (last_from next others chain.1 is) where
    by_later : WasBefore next others ⊎ IsFound (next ∷ others) → WasBefore first (next ∷ others) ⊎ IsFound (first ∷ next ∷ others)
    by_later (inl (was, rest)) = first_from first (next ∷ others) rest (new_from first (subst (λ (s : StateView). IsReleasedAt number clock s.ixl) chain.0 was))
    by_later (inr (place, step, stands, given, rest)) = inr (suc place, step, stands, given, rest)

-- ---- in the last step

module _ (number : ℕ) (step : StepTaken) (place : ℕ) (taken : TurnTaken) (at : slice_get step.whole.turns place ≡ Some taken) (frees : FreesByRelease step.now step.old.state.sited.table number taken) where
  abbrev begin : StepSoFar
  begin = heard step.now step.input step.old

  abbrev Kept : StepSoFar → Type 0
  Kept part = KeptSince begin.ixl.closed (length begin.ixl.known_signals) begin.ixl.routes part

  -- it was released so behind the input
  pub was_released : IsReleasedAt number frees.over.0 (heard step.now step.input step.old).ixl
  was_released = by_route (slice_get begin.ixl.routes number) refl where
    -- what is kept at the turn follows on what was kept then
    from_there : ((mid : RouteState) × (slice_get begin.ixl.routes number ≡ Some mid) × (frees.route.released ≡ mid.released) → ⊥) → ⊥
    from_there wrong = up_to step.now step.old.state.sited.table Kept (turn_kept step.now step.old.state.sited.table begin.ixl.closed (length begin.ixl.known_signals) begin.ixl.routes) step.whole.turns begin step.whole.last step.whole.follow place taken at
        (nothing_yet begin) (λ kept. let mid = kept.follow number frees.route frees.is.1 in wrong (mid.0, mid.1, mid.2.released))

    by_clock : (mid : RouteState) → slice_get begin.ixl.routes number ≡ Some mid → (clock : ℕ) → mid.released ≡ Some clock → (same : Bool) → (clock == frees.over.0) ≡ same → IsReleasedAt number frees.over.0 begin.ixl
    by_clock mid is clock noted true same = (mid, is, noted ∙ ap Some (eqb-true clock frees.over.0 same))
    by_clock mid is clock noted false apart = absurd (from_there (λ there.
        eqb-false clock frees.over.0 apart (some_same (sym noted ∙ ap (λ (r : RouteState). r.released) (some_same (sym is ∙ there.1)) ∙ sym there.2 ∙ frees.over.1))))

    by_released : (mid : RouteState) → slice_get begin.ixl.routes number ≡ Some mid → (released : Option ℕ) → mid.released ≡ released → IsReleasedAt number frees.over.0 begin.ixl
    by_released mid is (Some clock) noted = by_clock mid is clock noted (clock == frees.over.0) refl
    by_released mid is None none = absurd (from_there (λ there.
        none_is (sym none ∙ ap (λ (r : RouteState). r.released) (some_same (sym is ∙ there.1)) ∙ sym there.2 ∙ frees.over.1)))

    by_route : (one : Option RouteState) → slice_get begin.ixl.routes number ≡ one → IsReleasedAt number frees.over.0 begin.ixl
    by_route None none = absurd (from_there (λ there. none_is (sym none ∙ there.1)))
    by_route (Some mid) is = by_released mid is mid.released refl

pub released_before : (number : ℕ) (first : StepTaken) (others : List StepTaken) (place : ℕ) (taken : TurnTaken) → OneAfterAnother first others → IsUnreleased number first.old.state.ixl →
    slice_get (last_of first others).whole.turns place ≡ Some taken → FreesByRelease (last_of first others).now (last_of first others).old.state.sited.table number taken →
    IsReleasedBefore number (first ∷ others) (last_of first others).now
released_before number first others place taken chain unreleased at frees =
    by_way (last_from number frees.over.0 first others chain (was_released number (last_of first others) place taken at frees))
  where
    by_way : WasBefore number frees.over.0 first others ⊎ IsFound number frees.over.0 (first ∷ others) → IsReleasedBefore number (first ∷ others) (last_of first others).now
    by_way (inl ((route, is, released), unset)) = absurd (none_is (sym (unreleased route is) ∙ released))
    by_way (inr (found, step, stands, (given, clock), unset)) = record {
      place = found;
      step = step;
      stands = stands;
      given = given;
      over = subst (λ n. approach_end n ≤ (last_of first others).now) (sym clock) frees.over.2;
      same_setting = unset;
    }
