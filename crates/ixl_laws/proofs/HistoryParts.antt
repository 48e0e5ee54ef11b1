-- One route through the parts of a step.
use Rattle.std.proofs.Common.{◌≡◌, ◌⊎◌, inl, inr, ℕ, zero, suc, Bool, true, false, if◌then◌else◌, List, [], ◌∷◌, length, ◌<◌, ◌≤◌, arith, refl, ap, sym, ◌∙◌, subst}
use Rattle.std.specs.Prelude.{◌==◌, ◌&&◌, ◌||◌, not, Option, Some, None, slice_get}
use Rattle.std.proofs.lemmas.Bool.{eq-eqb, eqb-true, false≢true, true≢false}
use Rattle.ixl_state.specs.release.Passage.{PassageState, after_look, passage_after}
use Rattle.ixl_state.specs.ixl_spec.StepSoFar.{StepSoFar, along, at_route, giving_aspect, giving_move, over, with_route}
use Rattle.ixl_state.specs.ixl_spec.Rules.{authorised, come_to, count, ending_authority, freed, freeing_by_cancel, freeing_by_passage, freeing_next, frees_cancelled, frees_next, is_move_due, is_proceed_due, is_proceeding, is_stop_due, is_waiting, is_withdrawn, moving, moving_one, one_freed, proceeding, ruled, stopped, withdrawing}
use Rattle.ixl_state.specs.ixl_spec.State.{IxlState, KnownDetectorState, RouteState, changed}
use Rattle.ixl_state.specs.ixl_spec.Step.{Commands, Datagram, Input, Tick, detector_ticking, known_point_ticking, known_signal_ticking, looking, looking_by, route_looks, ticked, watching}
use Rattle.ixl_state.specs.ixl_spec.Table.{Need, Row, Table}
use Rattle.ixl_state.specs.ixl_spec.View.{has_authority, is_approach_clear, is_at_known_stop, is_clear, is_set, is_signal_ready, place_in, was_authorised}
use Rattle.ixl_state.specs.ixl_spec.declared.phase.Phase.{Phase}
use Rattle.ixl_state.specs.ixl_spec.declared.phase.Phase.TheVariants as phase
use Rattle.ixl_laws.proofs.RoutesGoOn.{looks_phase}
use Rattle.ixl_laws.proofs.HistoryLists.{look_all, look_by}
use Rattle.ixl_laws.proofs.PickedByTest.{both, changed_elsewhere, either, none_is, picked, some_same}
use Rattle.ixl_laws.proofs.Ruled.{IsKeptByChanges, along_holds, freed_holds, moving_holds, over_holds, proceeding_holds, repeated_holds, seen_holds, watching_holds, with_one_holds, withdrawing_holds}

changed_there : {A : Type 0} (change : A → A) (place : ℕ) (list : List A) (one : A) → slice_get list place ≡ Some one → slice_get (changed change place list) place ≡ Some (change one)
changed_there change place [] one is = absurd (none_is is)
changed_there change zero (first ∷ others) one is = ap (λ a. Some (change a)) (some_same is)
changed_there change (suc place) (first ∷ others) one is = changed_there change place others one is

-- whether an approach is clear is a matter of the detectors
same_approach : (table : Table) (row : Row) (a b : IxlState) → a.detectors ≡ b.detectors → is_approach_clear table a row ≡ is_approach_clear table b row
unfolding is_clear
same_approach table row a b same = ap (λ (detectors : List KnownDetectorState). is_approach_clear table (record a { detectors = detectors }) row) same

authority_is : (p : Phase) → is_proceeding p || is_withdrawn p ≡ has_authority p
authority_is phase.Free = refl
authority_is phase.Waiting = refl
authority_is phase.Proceeding = refl
authority_is phase.Withdrawn = refl
authority_is (phase.Ended clock done) = refl

pub authorised_set : (p : Phase) → was_authorised p ≡ true → is_set p ≡ true
authorised_set phase.Free is = is
authorised_set phase.Waiting is = refl
authorised_set phase.Proceeding is = refl
authorised_set phase.Withdrawn is = refl
authorised_set (phase.Ended clock done) is = refl

proceeding_authorised : (p : Phase) → is_proceeding p ≡ true → was_authorised p ≡ true
proceeding_authorised phase.Free is = absurd (false≢true is)
proceeding_authorised phase.Waiting is = absurd (false≢true is)
proceeding_authorised phase.Proceeding is = refl
proceeding_authorised phase.Withdrawn is = refl
proceeding_authorised (phase.Ended clock done) is = refl

withdrawn_authorised : (p : Phase) → is_withdrawn p ≡ true → was_authorised p ≡ true
withdrawn_authorised phase.Free is = absurd (false≢true is)
withdrawn_authorised phase.Waiting is = absurd (false≢true is)
withdrawn_authorised phase.Proceeding is = refl
withdrawn_authorised phase.Withdrawn is = refl
withdrawn_authorised (phase.Ended clock done) is = refl

waiting_unauthorised : (p : Phase) → is_waiting p ≡ true → was_authorised p ≡ false
waiting_unauthorised phase.Free is = refl
waiting_unauthorised phase.Waiting is = refl
waiting_unauthorised phase.Proceeding is = absurd (false≢true is)
waiting_unauthorised phase.Withdrawn is = absurd (false≢true is)
waiting_unauthorised (phase.Ended clock done) is = absurd (false≢true is)

waiting_set : (p : Phase) → is_waiting p ≡ true → is_set p ≡ true
waiting_set phase.Free is = absurd (false≢true is)
waiting_set phase.Waiting is = refl
waiting_set phase.Proceeding is = refl
waiting_set phase.Withdrawn is = refl
waiting_set (phase.Ended clock done) is = refl

-- a step so far, of whose route at this number a fact holds
abbrev pub Of : ℕ → (RouteState → Type 0) → StepSoFar → Type 0
Of number fact part = (route : RouteState) × (slice_get part.ixl.routes number ≡ Some route) × fact route

-- what each of the first five rules does to a route keeps this fact
pub record Stays (fact : RouteState → Type 0) : Type 0 where
  pub withdrawn : (route : RouteState) → is_proceeding route.phase ≡ true → fact route → fact (come_to phase.Withdrawn route)
  pub ended : (now : ℕ) (route : RouteState) → is_withdrawn route.phase ≡ true → fact route → fact (come_to (phase.Ended now 0) route)
  pub next : (table : Table) (ixl : IxlState) (row : Row) (route : RouteState) → frees_next table ixl row route route.phase ≡ true → fact route → fact (one_freed row route.phase route)
  pub frees : (route : RouteState) → fact route → fact (freed route)

module _ (number : ℕ) where
  elsewhere : (fact : RouteState → Type 0) (other : ℕ) (change : RouteState → RouteState) (part : StepSoFar) → (other ≡ number → ⊥) → Of number fact part → Of number fact (with_route other change part)
  elsewhere fact other change part apart is = (is.0, changed_elsewhere change other number part.ixl.routes (λ same. apart (sym same)) ∙ is.1, is.2)

  here : (fact after : RouteState → Type 0) (change : RouteState → RouteState) (part : StepSoFar) → Of number fact part → ((route : RouteState) → fact route → after (change route)) → Of number after (with_route number change part)
  here fact after change part is changes = (change is.0, changed_there change number part.ixl.routes is.0 is.1, changes is.0 is.2)

  -- a change of a route that keeps the fact where it is this one
  changing : (fact : RouteState → Type 0) (other : ℕ) (change : RouteState → RouteState) (part : StepSoFar) (route : RouteState) → slice_get part.ixl.routes other ≡ Some route → (fact route → fact (change route)) →
      Of number fact part → Of number fact (with_route other change part)
  changing fact other change part route there keeps is = by_number (other == number) refl where
    by_number : (b : Bool) → (other == number) ≡ b → Of number fact (with_route other change part)
    by_number false apart = elsewhere fact other change part (λ same. false≢true (sym apart ∙ eq-eqb other number same)) is
    by_number true same =
        let found : is.0 ≡ route = some_same (sym is.1 ∙ ap (slice_get part.ixl.routes) (sym (eqb-true other number same)) ∙ there)
        in let done : Of number fact (with_route number change part) = (change is.0, changed_there change number part.ixl.routes is.0 is.1, subst (λ (r : RouteState). fact (change r)) (sym found) (keeps (subst fact found is.2)))
        in subst (λ n. Of number fact (with_route n change part)) (sym (eqb-true other number same)) done

  -- and one that keeps it wherever it is this one
  pub changing_all : (fact : RouteState → Type 0) (other : ℕ) (change : RouteState → RouteState) (part : StepSoFar) → (other ≡ number → (route : RouteState) → fact route → fact (change route)) →
      Of number fact part → Of number fact (with_route other change part)
  changing_all fact other change part keeps is = by_number (other == number) refl where
    by_number : (b : Bool) → (other == number) ≡ b → Of number fact (with_route other change part)
    by_number false apart = elsewhere fact other change part (λ same. false≢true (sym apart ∙ eq-eqb other number same)) is
    by_number true same = subst (λ n. Of number fact (with_route n change part)) (sym (eqb-true other number same)) (here fact fact change part is (keeps (eqb-true other number same)))

  at_route_of : (fact : RouteState → Type 0) (table : Table) (other : ℕ) (does : Row → RouteState → StepSoFar → StepSoFar) (part : StepSoFar) →
      ((row : Row) (route : RouteState) → slice_get part.ixl.routes other ≡ Some route → Of number fact (does row route part)) → Of number fact part → Of number fact (at_route table other does part)
  unfolding at_route
  at_route_of fact table other does part each is =
      with_one_holds (Of number fact) (slice_get table.rows other) _ part (λ row there. with_one_holds (Of number fact) (slice_get part.ixl.routes other) (does row) part (λ route also. each row route also) is) is

  aspect_of : (fact : RouteState → Type 0) (now signal : ℕ) (aspect : _) (part : StepSoFar) → Of number fact part → Of number fact (giving_aspect now signal aspect part)
  unfolding giving_aspect
  aspect_of fact now signal aspect part is = with_one_holds (Of number fact) (slice_get part.ixl.known_signals signal) _ part (λ known_signal there. (is.0, is.1, is.2)) is

  pub move_of : (fact : RouteState → Type 0) (now point : ℕ) (side : _) (part : StepSoFar) → Of number fact part → Of number fact (giving_move now point side part)
  unfolding giving_move
  move_of fact now point side part is = with_one_holds (Of number fact) (slice_get part.ixl.known_points point) _ part (λ known_point there. (is.0, is.1, is.2)) is

  stopped_of : (fact : RouteState → Type 0) (now : ℕ) (row : Row) (part : StepSoFar) → Of number fact part → Of number fact (stopped now row part)
  stopped_of fact now row part is = either (Of number fact) (is_signal_ready part.ixl row.entry) _ _ (aspect_of fact now row.entry _ part is) is

  pub ticked_of : (fact : RouteState → Type 0) (now : ℕ) (input : Input) (part : StepSoFar) → Of number fact part → Of number fact (ticked now input part)
  unfolding ticked known_signal_ticking known_point_ticking detector_ticking
  ticked_of fact now (Datagram bytes) part is = is
  ticked_of fact now (Commands command) part is = is
  ticked_of fact now Tick part is =
      over_holds (Of number fact) (detector_ticking now) (λ n mid holds. with_one_holds (Of number fact) (slice_get mid.ixl.detectors n) _ mid (λ kept there. (holds.0, holds.1, holds.2)) holds) (length part.ixl.detectors) _
      (over_holds (Of number fact) (known_point_ticking now) (λ n mid holds. with_one_holds (Of number fact) (slice_get mid.ixl.known_points n) _ mid (λ kept there. (holds.0, holds.1, holds.2)) holds) (length part.ixl.known_points) _
      (over_holds (Of number fact) (known_signal_ticking now) (λ n mid holds. with_one_holds (Of number fact) (slice_get mid.ixl.known_signals n) _ mid (λ kept there. (holds.0, holds.1, holds.2)) holds) (length part.ixl.known_signals) part is))

  -- ---- the first five rules

  module _ (fact : RouteState → Type 0) (stays : Stays fact) (now : ℕ) (table : Table) where
    withdrawing_of : (other : ℕ) (part : StepSoFar) → Of number fact part → Of number fact (withdrawing now table other part)
    unfolding withdrawing
    withdrawing_of other part is = at_route_of fact table other _ part (λ row route there.
        picked (Of number fact) (is_stop_due table part.ixl row route) _ _
        (λ due. stopped_of fact now row _ (changing fact other (come_to phase.Withdrawn) part route there (stays.withdrawn route (both _ _ due).0) is)) (λ none. is)) is

    ending_of : (other : ℕ) (part : StepSoFar) → Of number fact part → Of number fact (ending_authority now table other part)
    unfolding ending_authority
    ending_of other part is = at_route_of fact table other _ part (λ row route there.
        picked (Of number fact) (is_withdrawn route.phase && is_at_known_stop now part.ixl row.entry) _ _
        (λ due. changing fact other (come_to (phase.Ended now 0)) part route there (stays.ended now route (both _ _ due).0) is) (λ none. is)) is

    next_of : (other : ℕ) (part : StepSoFar) → Of number fact part → Of number fact (freeing_next table other part)
    unfolding freeing_next
    next_of other part is = at_route_of fact table other _ part (λ row route there.
        picked (Of number fact) (frees_next table part.ixl row route route.phase) _ _
        (λ due. changing fact other (one_freed row route.phase) part route there (stays.next table part.ixl row route due) is) (λ none. is)) is

    passage_of : (other : ℕ) (part : StepSoFar) → Of number fact part → Of number fact (freeing_by_passage table other part)
    unfolding freeing_by_passage
    passage_of other part is = at_route_of fact table other _ part (λ row route there. repeated_holds (Of number fact) (freeing_next table other) (next_of other) (length row.sections) part is) is

    cancel_of : (other : ℕ) (part : StepSoFar) → Of number fact part → Of number fact (freeing_by_cancel now table other part)
    unfolding freeing_by_cancel
    cancel_of other part is = at_route_of fact table other _ part (λ row route there.
        either (Of number fact) (route.cancelled && frees_cancelled now table part.ixl row route route.phase) _ _
        (changing fact other freed part route there (stays.frees route) is) is) is

    moving_one_of : (other : ℕ) (need : Need) (part : StepSoFar) → Of number fact part → Of number fact (moving_one now table other need part)
    unfolding moving_one
    moving_one_of other need part is = at_route_of fact table other _ part (λ row route there.
        either (Of number fact) (is_move_due table part.ixl other route need) _ _ (move_of fact now need.point need.side part is) is) is

    moving_of : (other : ℕ) (part : StepSoFar) → Of number fact part → Of number fact (moving now table other part)
    unfolding moving
    moving_of other part is = at_route_of fact table other _ part (λ row route there. along_holds (Of number fact) (moving_one now table other) (moving_one_of other) row.needs part is) is

    pub moved_of : (part : StepSoFar) → Of number fact part → Of number fact (over (moving now table) (count table)
        (over (freeing_by_cancel now table) (count table) (over (freeing_by_passage table) (count table) (over (ending_authority now table) (count table) (over (withdrawing now table) (count table) part)))))
    moved_of part is =
        over_holds (Of number fact) (moving now table) moving_of (count table) _
        (over_holds (Of number fact) (freeing_by_cancel now table) cancel_of (count table) _
        (over_holds (Of number fact) (freeing_by_passage table) passage_of (count table) _
        (over_holds (Of number fact) (ending_authority now table) ending_of (count table) _
        (over_holds (Of number fact) (withdrawing now table) withdrawing_of (count table) part is))))

  -- ---- at one number of all

  module _ (does : ℕ → StepSoFar → StepSoFar) (Before After : StepSoFar → Type 0) (keeps : (other : ℕ) (part : StepSoFar) → (other ≡ number → ⊥) → Before part → Before (does other part))
      (stays : (other : ℕ) (part : StepSoFar) → (other ≡ number → ⊥) → After part → After (does other part)) (becomes : (part : StepSoFar) → Before part → After (does number part)) where
    not_yet : (n : ℕ) (part : StepSoFar) → n ≤ number → Before part → Before (over does n part)
    not_yet zero part within is = is
    not_yet (suc n) part within is = keeps n (over does n part) (λ same. omega (arith, within, same)) (not_yet n part (omega (arith, within)) is)

    pub over_once : (n : ℕ) (part : StepSoFar) → number < n → Before part → After (over does n part)
    over_once zero part within is = absurd (omega (arith, within))
    over_once (suc n) part within is = by_number (n == number) refl (over_once n part) where
      by_number : (b : Bool) → (n == number) ≡ b → (number < n → Before part → After (over does n part)) → After (does n (over does n part))
      by_number true same earlier = subst (λ m. After (does m (over does n part))) (sym (eqb-true n number same)) (becomes (over does n part) (not_yet n part (omega (arith, eqb-true n number same)) is))
      by_number false apart earlier = stays n (over does n part) other (earlier (omega (arith, within, other)) is) where
        other : n ≡ number → ⊥
        other same = false≢true (sym apart ∙ eq-eqb n number same)

-- ---- a route that was authorised before the rules

-- it was freed, or is kept as it was
abbrev pub IsKept : PassageState → Bool → RouteState → Type 0
IsKept passage approached route = (is_set route.phase ≡ false) ⊎ ((was_authorised route.phase ≡ true) × (route.passage ≡ passage) × (route.approached ≡ approached))

kept_past : (passage : PassageState) (approached : Bool) (p : Phase) (route : RouteState) → was_authorised p ≡ true → is_set route.phase ≡ true → IsKept passage approached route → IsKept passage approached (come_to p route)
kept_past passage approached p route authorised set (inl free) = absurd (true≢false (sym set ∙ free))
kept_past passage approached p route authorised set (inr is) = inr (authorised, is.1, is.2)

next_kept : (passage : PassageState) (approached : Bool) (table : Table) (ixl : IxlState) (row : Row) (route : RouteState) (p : Phase) → route.phase ≡ p → frees_next table ixl row route p ≡ true → IsKept passage approached route →
    IsKept passage approached (one_freed row p route)
next_kept passage approached table ixl row route phase.Free at is kept = absurd (false≢true is)
next_kept passage approached table ixl row route phase.Waiting at is kept = absurd (false≢true is)
next_kept passage approached table ixl row route phase.Proceeding at is kept = absurd (false≢true is)
next_kept passage approached table ixl row route phase.Withdrawn at is kept = absurd (false≢true is)
next_kept passage approached table ixl row route (phase.Ended clock done) at is kept = either (IsKept passage approached) (suc done == length row.sections) _ _ (inl refl)
    (kept_past passage approached (phase.Ended clock (suc done)) route refl (ap is_set at) kept)

kept_stays : (passage : PassageState) (approached : Bool) → Stays (IsKept passage approached)
kept_stays passage approached = record {
  withdrawn = λ route is kept. kept_past passage approached phase.Withdrawn route refl (authorised_set route.phase (proceeding_authorised route.phase is)) kept;
  ended = λ now route is kept. kept_past passage approached (phase.Ended now 0) route refl (authorised_set route.phase (withdrawn_authorised route.phase is)) kept;
  next = λ table ixl row route is kept. next_kept passage approached table ixl row route route.phase refl is kept;
  frees = λ route kept. inl refl;
}

waiting_not_kept : (passage : PassageState) (approached : Bool) (route : RouteState) → is_waiting route.phase ≡ true → IsKept passage approached route → ⊥
waiting_not_kept passage approached route waits (inl free) = true≢false (sym (waiting_set route.phase waits) ∙ free)
waiting_not_kept passage approached route waits (inr is) = true≢false (sym is.0 ∙ waiting_unauthorised route.phase waits)

due_waits : (now : ℕ) (table : Table) (ixl : IxlState) (row : Row) (route : RouteState) → is_proceed_due now table ixl row route ≡ true → is_waiting route.phase ≡ true
due_waits now table ixl row route due = (both _ _ (both _ _ (both _ _ (both _ _ (both _ _ due).0).0).0).0).0

module _ (number : ℕ) (now : ℕ) (table : Table) where
  proceeding_of : (passage : PassageState) (approached : Bool) (other : ℕ) (part : StepSoFar) → Of number (IsKept passage approached) part → Of number (IsKept passage approached) (proceeding now table other part)
  unfolding proceeding
  proceeding_of passage approached other part is = at_route_of number (IsKept passage approached) table other _ part (λ row route there.
      picked (Of number (IsKept passage approached)) (is_proceed_due now table part.ixl row route) _ _
      (λ due. aspect_of number (IsKept passage approached) now row.entry row.aspect _ (changing number (IsKept passage approached) other (authorised table part.ixl row) part route there
      (λ kept. absurd (waiting_not_kept passage approached route (due_waits now table part.ixl row route due) kept)) is)) (λ none. is)) is

  pub ruled_kept : (passage : PassageState) (approached : Bool) (part : StepSoFar) → Of number (IsKept passage approached) part → Of number (IsKept passage approached) (ruled now table part)
  ruled_kept passage approached part is =
      over_holds (Of number (IsKept passage approached)) (proceeding now table) (proceeding_of passage approached) (count table) _
      (moved_of number (IsKept passage approached) (kept_stays passage approached) now table part is)

-- ---- a route without authority before the rules

abbrev pub IsUnauthorised : RouteState → Type 0
IsUnauthorised route = was_authorised route.phase ≡ false

next_unauthorised : (table : Table) (ixl : IxlState) (row : Row) (route : RouteState) (p : Phase) → was_authorised p ≡ false → frees_next table ixl row route p ≡ true → ⊥
next_unauthorised table ixl row route phase.Free not_yet is = false≢true is
next_unauthorised table ixl row route phase.Waiting not_yet is = false≢true is
next_unauthorised table ixl row route phase.Proceeding not_yet is = true≢false not_yet
next_unauthorised table ixl row route phase.Withdrawn not_yet is = true≢false not_yet
next_unauthorised table ixl row route (phase.Ended clock done) not_yet is = true≢false not_yet

unauthorised_stays : Stays IsUnauthorised
unauthorised_stays = record {
  withdrawn = λ route is not_yet. absurd (true≢false (sym (proceeding_authorised route.phase is) ∙ not_yet));
  ended = λ now route is not_yet. absurd (true≢false (sym (withdrawn_authorised route.phase is) ∙ not_yet));
  next = λ table ixl row route is not_yet. absurd (next_unauthorised table ixl row route route.phase not_yet is);
  frees = λ route not_yet. refl;
}

-- it was given authority in this step, and then nothing was told yet but how the approach stands; or it has none
abbrev pub HasBegun : Row → Bool → RouteState → Type 0
HasBegun row clear route = (was_authorised route.phase ≡ false) ⊎ ((route.passage ≡ passage_after (length row.sections) []) × (route.approached ≡ not clear))

-- what is kept of it
abbrev pub Keeps : Phase → PassageState → Bool → RouteState → Type 0
Keeps p passage approached route = (route.phase ≡ p) × (route.passage ≡ passage) × (route.approached ≡ approached)

-- it is watched, once, while it has authority
abbrev pub watched : Phase → Bool → Bool → Bool
watched p clear approached = if has_authority p then approached || not clear else approached

-- and the detectors are these
abbrev pub With : List KnownDetectorState → (StepSoFar → Type 0) → StepSoFar → Type 0
With detectors Holds part = (part.ixl.detectors ≡ detectors) × Holds part

module _ (detectors : List KnownDetectorState) where
  abbrev pub Has : StepSoFar → Type 0
  Has part = part.ixl.detectors ≡ detectors

  pub aspect_has : (now signal : ℕ) (aspect : _) (part : StepSoFar) → Has part → Has (giving_aspect now signal aspect part)
  unfolding giving_aspect
  aspect_has now signal aspect part is = with_one_holds Has (slice_get part.ixl.known_signals signal) _ part (λ known_signal there. is) is

  pub move_has : (now point : ℕ) (side : _) (part : StepSoFar) → Has part → Has (giving_move now point side part)
  unfolding giving_move
  move_has now point side part is = with_one_holds Has (slice_get part.ixl.known_points point) _ part (λ known_point there. is) is

  pub changes_has : (now : ℕ) → IsKeptByChanges now Has
  changes_has now = record { route = λ number change part is. is; aspect = aspect_has now; move = λ point side part available is. move_has now point side part is }

module _ (number : ℕ) (now : ℕ) (table : Table) (row : Row) (there : slice_get table.rows number ≡ Some row) (detectors : List KnownDetectorState) (first : IxlState) (same : first.detectors ≡ detectors) where
  abbrev Begun : RouteState → Type 0
  Begun = HasBegun row (is_approach_clear table first row)

  at_this : (does : Row → RouteState → StepSoFar → StepSoFar) (part : StepSoFar) (route : RouteState) → slice_get part.ixl.routes number ≡ Some route → at_route table number does part ≡ does row route part
  unfolding at_route
  at_this does part route is = rw (there, is) refl

  authorised_elsewhere : (fact : RouteState → Type 0) (other : ℕ) (part : StepSoFar) → (other ≡ number → ⊥) → With detectors (Of number fact) part → With detectors (Of number fact) (proceeding now table other part)
  unfolding proceeding
  authorised_elsewhere fact other part apart is = (
    proceeding_holds (Has detectors) now (changes_has detectors now) table other part is.0,
    at_route_of number fact table other _ part (λ r route found.
        either (Of number fact) (is_proceed_due now table part.ixl r route) _ _
        (aspect_of number fact now r.entry r.aspect _ (elsewhere number fact other (authorised table part.ixl r) part apart is.1)) is.1) is.1,
  )

  authorised_here : (part : StepSoFar) → With detectors (Of number IsUnauthorised) part → With detectors (Of number Begun) (proceeding now table number part)
  unfolding proceeding
  authorised_here part is = (
    proceeding_holds (Has detectors) now (changes_has detectors now) table number part is.0,
    subst (Of number Begun) (sym (at_this _ part is.1.0 is.1.1))
        (picked (Of number Begun) (is_proceed_due now table part.ixl row is.1.0) _ _
        (λ due. aspect_of number Begun now row.entry row.aspect _ (here number IsUnauthorised Begun (authorised table part.ixl row) part is.1
        (λ route not_yet. inr (refl, ap not (same_approach table row part.ixl first (is.0 ∙ sym same))))))
        (λ none. (is.1.0, is.1.1, inl is.1.2))),
  )

  pub ruled_begins : (part : StepSoFar) → number < count table → With detectors (Of number IsUnauthorised) part → Of number Begun (ruled now table part)
  ruled_begins part within is = (over_once number (proceeding now table) (With detectors (Of number IsUnauthorised)) (With detectors (Of number Begun))
      (authorised_elsewhere IsUnauthorised) (authorised_elsewhere Begun) authorised_here (count table) _ within
      (moved_has, moved_of number IsUnauthorised unauthorised_stays now table part is.1)).1
    where
      moved_has : Has detectors (over (moving now table) (count table) (over (freeing_by_cancel now table) (count table) (over (freeing_by_passage table) (count table) (over (ending_authority now table) (count table) (over (withdrawing now table) (count table) part)))))
      moved_has = over_holds (Has detectors) (moving now table) (moving_holds (Has detectors) now (changes_has detectors now) table) (count table) _
          (freed_holds (Has detectors) (λ n change p holds. holds) table now _
          (over_holds (Has detectors) (withdrawing now table) (withdrawing_holds (Has detectors) now (changes_has detectors now) table) (count table) part is.0))

  -- ---- what is seen

  watching_elsewhere : (fact : RouteState → Type 0) (other : ℕ) (part : StepSoFar) → (other ≡ number → ⊥) → With detectors (Of number fact) part → With detectors (Of number fact) (watching table other part)
  unfolding watching
  watching_elsewhere fact other part apart is = (
    watching_holds (Has detectors) (λ n change p holds. holds) table other part is.0,
    at_route_of number fact table other _ part (λ r route found.
        either (Of number fact) (is_proceeding route.phase || is_withdrawn route.phase) _ _ (elsewhere number fact other _ part apart is.1) is.1) is.1,
  )

  module _ (p : Phase) (passage : PassageState) (approached : Bool) where
    watching_here : (part : StepSoFar) → With detectors (Of number (Keeps p passage approached)) part → With detectors (Of number (Keeps p passage (watched p (is_approach_clear table first row) approached))) (watching table number part)
    unfolding watching
    watching_here part is = (
      watching_holds (Has detectors) (λ n change q holds. holds) table number part is.0,
      subst (Of number (Keeps p passage (watched p (is_approach_clear table first row) approached))) (sym (at_this _ part is.1.0 is.1.1)) (by_phase (has_authority p) refl),
    )
      where
        authority : is_proceeding is.1.0.phase || is_withdrawn is.1.0.phase ≡ has_authority p
        authority = authority_is is.1.0.phase ∙ ap has_authority is.1.2.0

        clear_is : is_approach_clear table part.ixl row ≡ is_approach_clear table first row
        clear_is = same_approach table row part.ixl first (is.0 ∙ sym same)

        by_phase : (b : Bool) → has_authority p ≡ b → Of number (Keeps p passage (watched p (is_approach_clear table first row) approached))
            (if is_proceeding is.1.0.phase || is_withdrawn is.1.0.phase then with_route number (λ old. record old { approached = old.approached || not (is_approach_clear table part.ixl row) }) part else part)
        by_phase true at = rw (authority ∙ at) (here number (Keeps p passage approached) (Keeps p passage (watched p (is_approach_clear table first row) approached)) (λ old. record old { approached = old.approached || not (is_approach_clear table part.ixl row) }) part is.1
            (λ route was. (
              was.0,
              was.1,
              ap (λ b. b || not (is_approach_clear table part.ixl row)) was.2 ∙ ap (λ b. approached || not b) clear_is
                  ∙ ap (λ b. if b then approached || not (is_approach_clear table first row) else approached) (sym at),
            )))
        by_phase false at = rw (authority ∙ at) (is.1.0, is.1.1, (is.1.2.0, is.1.2.1, is.1.2.2 ∙ ap (λ b. if b then approached || not (is_approach_clear table first row) else approached) (sym at)))

    pub seen_watched : (part : StepSoFar) → number < count table → With detectors (Of number (Keeps p passage approached)) part → Of number (Keeps p passage (watched p (is_approach_clear table first row) approached)) (over (watching table) (count table) part)
    seen_watched part within is = (over_once number (watching table) (With detectors (Of number (Keeps p passage approached))) (With detectors (Of number (Keeps p passage (watched p (is_approach_clear table first row) approached))))
        (watching_elsewhere (Keeps p passage approached)) (watching_elsewhere (Keeps p passage (watched p (is_approach_clear table first row) approached))) watching_here (count table) part within is).1

  -- one that was never authorised stays so
  watching_unauthorised : (other : ℕ) (part : StepSoFar) → Of number IsUnauthorised part → Of number IsUnauthorised (watching table other part)
  unfolding watching
  watching_unauthorised other part is = at_route_of number IsUnauthorised table other _ part (λ r route found.
      either (Of number IsUnauthorised) (is_proceeding route.phase || is_withdrawn route.phase) _ _ (changing number IsUnauthorised other _ part route found (λ not_yet. not_yet) is) is) is

  pub seen_unauthorised : (part : StepSoFar) → With detectors (Of number IsUnauthorised) part → With detectors (Of number IsUnauthorised) (over (watching table) (count table) part)
  seen_unauthorised part is = (seen_holds (Has detectors) (λ n change p holds. holds) table part is.0, over_holds (Of number IsUnauthorised) (watching table) watching_unauthorised (count table) part is.1)

  -- ---- looks

  module _ (p : Phase) (authorised : was_authorised p ≡ true) (approached : Bool) where
    abbrev Looked : PassageState → RouteState → Type 0
    Looked passage route = Keeps p passage approached route

    looks_once : (section : ℕ) (occupied : Bool) (passage : PassageState) (route : RouteState) → Looked passage route → Looked (look_by row (section, occupied) passage) (route_looks section occupied row route)
    looks_once section occupied passage route is = by_place (place_in section row.sections) refl where
      by_place : (place : Option ℕ) → place_in section row.sections ≡ place → Looked (look_by row (section, occupied) passage) (route_looks section occupied row route)
      by_place None at = rw at is
      by_place (Some place) at = rw at (is.0, ap (λ old. after_look old place occupied) is.1, is.2)

    looking_elsewhere : (section : ℕ) (occupied : Bool) (passage : PassageState) (other : ℕ) (part : StepSoFar) → (other ≡ number → ⊥) → Of number (Looked passage) part → Of number (Looked passage) (looking_by section occupied table other part)
    unfolding looking_by
    looking_elsewhere section occupied passage other part apart is = at_route_of number (Looked passage) table other _ part (λ r route found.
        either (Of number (Looked passage)) (was_authorised route.phase) _ _ (elsewhere number (Looked passage) other _ part apart is) is) is

    looking_here : (section : ℕ) (occupied : Bool) (passage : PassageState) (part : StepSoFar) → Of number (Looked passage) part → Of number (Looked (look_by row (section, occupied) passage)) (looking_by section occupied table number part)
    unfolding looking_by
    looking_here section occupied passage part is = subst (Of number (Looked (look_by row (section, occupied) passage))) (sym (at_this _ part is.0 is.1))
        (picked (Of number (Looked (look_by row (section, occupied) passage))) (was_authorised is.0.phase) _ _
        (λ passed. here number (Looked passage) (Looked (look_by row (section, occupied) passage)) (route_looks section occupied row) part is (looks_once section occupied passage))
        (λ no. absurd (true≢false (sym authorised ∙ ap was_authorised (sym is.2.0) ∙ no))))

    pub along_looks : number < count table → (looks : List (ℕ × Bool)) (passage : PassageState) (part : StepSoFar) → Of number (Keeps p passage approached) part → Of number (Keeps p (look_all row looks passage) approached) (along (looking table) looks part)
    unfolding look_all
    along_looks within [] passage part is = is
    along_looks within (first_look ∷ others) passage part is = along_looks within others (look_by row first_look passage) (looking table first_look part)
        (over_once number (looking_by first_look.0 first_look.1 table) (Of number (Looked passage)) (Of number (Looked (look_by row first_look passage)))
        (looking_elsewhere first_look.0 first_look.1 passage) (looking_elsewhere first_look.0 first_look.1 (look_by row first_look passage)) (looking_here first_look.0 first_look.1 passage) (count table) part within is)

  looking_unauthorised : (section : ℕ) (occupied : Bool) (other : ℕ) (part : StepSoFar) → Of number IsUnauthorised part → Of number IsUnauthorised (looking_by section occupied table other part)
  unfolding looking_by
  looking_unauthorised section occupied other part is = at_route_of number IsUnauthorised table other _ part (λ r route found.
      either (Of number IsUnauthorised) (was_authorised route.phase) _ _
      (changing number IsUnauthorised other (route_looks section occupied r) part route found (λ not_yet. ap was_authorised (looks_phase section occupied r route) ∙ not_yet) is) is) is

  pub along_unauthorised : (looks : List (ℕ × Bool)) (part : StepSoFar) → Of number IsUnauthorised part → Of number IsUnauthorised (along (looking table) looks part)
  along_unauthorised looks part is = along_holds (Of number IsUnauthorised) (looking table) (λ look mid holds. over_holds (Of number IsUnauthorised) (looking_by look.0 look.1 table) (looking_unauthorised look.0 look.1) (count table) mid holds) looks part is
