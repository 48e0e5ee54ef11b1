-- An aspect that is unsound after the input of a step falls in the step, and so does that of a cancelled route.
use Rattle.std.proofs.Common.{◌≡◌, ◌⊎◌, inl, inr, ℕ, zero, suc, ◌+◌, List, [], ◌∷◌, ◌++◌, true, length, arith, refl, ap, sym, ◌∙◌, subst}
use Rattle.std.specs.Prelude.{◌==◌, map, Some, slice_get}
use Rattle.std.proofs.lemmas.Bool.{false≢true}
use Rattle.ixl_state.specs.ixl_spec.Due.{IsRouteOf, ProceedDue, StopDue}
use Rattle.ixl_state.specs.ixl_spec.EndDue.{SomeFreeable}
use Rattle.ixl_state.specs.ixl_spec.Rules.{authorised, come_to, freed, one_freed, stopped}
use Rattle.ixl_state.specs.ixl_spec.State.{IxlState, RouteState}
use Rattle.ixl_state.specs.ixl_spec.StepSoFar.{StepSoFar, giving_aspect, giving_move, with_route}
use Rattle.ixl_state.specs.ixl_spec.Table.{Row, Table}
use Rattle.ixl_state.specs.ixl_spec.declared.phase.Phase.{Phase}
use Rattle.ixl_state.specs.ixl_spec.declared.phase.Phase.TheVariants as phase
use Rattle.ixl_laws.specs.Onward.{order_of}
use Rattle.ixl_laws.specs.UnsoundAspect.{IsUnsound}
use Rattle.ixl_laws.specs.WholeStep.{Beat, DoesItsTurn, EndAuthority, Follow, FreeCancelled, FreeSection, MovePoint, Passed, Proceed, Turn, TurnTaken, Watch, Withdraw, approach_seen, beaten, for_each, turns_of_rules}
use Rattle.ixl_laws.proofs.NothingLearnt.{LearnsNothing, learns_kept, nothing_at_first}
use Rattle.ixl_laws.proofs.Cancelled.{IsOff, Off, off_kept}
use Rattle.ixl_laws.proofs.PickedByTest.{changed_here, either, none_is, some_same}
use Rattle.ixl_laws.proofs.TurnKeeps.{Stays, from_turn, turn_at, up_to, where_stays}
use Rattle.ixl_laws.proofs.TurnOrder.{beaten_keeps, stopped_keeps}
use Rattle.ixl_laws.proofs.WholeFits.{aspect_keeps, changed_or_same, move_keeps}

-- a route's aspect isn't given, or was withdrawn
abbrev pub IsDown : ℕ → StepSoFar → Type 0
IsDown number part = (route : RouteState) → slice_get part.ixl.routes number ≡ Some route → route.phase ≡ phase.Proceeding → ⊥

same_down : (number : ℕ) (a b : StepSoFar) → b.ixl.routes ≡ a.ixl.routes → IsDown number a → IsDown number b
same_down number a b same down route is at = down route (ap (λ (routes : List RouteState). slice_get routes number) (sym same) ∙ is) at

route_down : (number place : ℕ) (change : RouteState → RouteState) (part : StepSoFar) →
    ((route : RouteState) → slice_get part.ixl.routes number ≡ Some route → number ≡ place → (route.phase ≡ phase.Proceeding → ⊥) → (change route).phase ≡ phase.Proceeding → ⊥) →
    IsDown number part → IsDown number (with_route place change part)
route_down number place change part stays down route is at = by_place (changed_or_same change place number part.ixl.routes route is) where
  by_place : (before : RouteState) × (slice_get part.ixl.routes number ≡ Some before) × ((route ≡ before) ⊎ ((number ≡ place) × (route ≡ change before))) → ⊥
  by_place (before, there, inl same) = down before there (ap (λ (r : RouteState). r.phase) (sym same) ∙ at)
  by_place (before, there, inr (here, same)) = stays before there here (down before there) (ap (λ (r : RouteState). r.phase) (sym same) ∙ at)

freed_down : (row : Row) (other : RouteState) (clock done : ℕ) → (one_freed row (phase.Ended clock done) other).phase ≡ phase.Proceeding → ⊥
freed_down row other clock done = either (λ (r : RouteState). r.phase ≡ phase.Proceeding → ⊥) (suc done == length row.sections) _ _
    (λ at. let wrong : 4 ≡ 1 = ap order_of at in omega (arith, wrong)) (λ at. let wrong : 3 ≡ 1 = ap order_of at in omega (arith, wrong))

next_down : (table : Table) (ixl : IxlState) (row : Row) (route other : RouteState) → SomeFreeable table ixl row route → (one_freed row route.phase other).phase ≡ phase.Proceeding → ⊥
next_down table ixl row route other (place, due) at = freed_down row other due.clock place (ap (λ (p : Phase). (one_freed row p other).phase) (sym due.ended) ∙ at)

-- for a reason that each turn keeps, for which proceed isn't due, and for which stop is where the aspect was given
module _ (now : ℕ) (table : Table) (number : ℕ) (row : Row) (there : slice_get table.rows number ≡ Some row) (Reason : StepSoFar → Type 0)
    (keeps : (turn : Turn) (before after : StepSoFar) → DoesItsTurn now table turn before after → Reason before → Stays (Reason after))
    (none_due : (part : StepSoFar) (route : RouteState) → IsRouteOf table part.ixl number row route → Reason part → ProceedDue now table part.ixl row route → ⊥)
    (stop_due : (part : StepSoFar) (route : RouteState) → IsRouteOf table part.ixl number row route → Reason part → route.phase ≡ phase.Proceeding → StopDue table part.ixl row route) where
  abbrev Down : StepSoFar → Type 0
  Down part = IsDown number part

  stays_down : (turn : Turn) (before after : StepSoFar) → DoesItsTurn now table turn before after → Reason before → IsDown number before → Stays (IsDown number after)
  stays_down (Watch place) before after (other, route, is, does) same down lost =
      where_stays Down before (with_route place (approach_seen table before.ixl other) before) after does down
      (λ due. route_down number place (approach_seen table before.ixl other) before (λ one at here was given. was given) down) lost
  stays_down (Withdraw place) before after (other, route, is, does) same down lost =
      where_stays Down before (stopped now other (with_route place (come_to phase.Withdrawn) before)) after does down
      (λ due. same_down number (with_route place (come_to phase.Withdrawn) before) (stopped now other (with_route place (come_to phase.Withdrawn) before)) (stopped_keeps now other (with_route place (come_to phase.Withdrawn) before))
      (route_down number place (come_to phase.Withdrawn) before (λ one at here was given. let wrong : 2 ≡ 1 = ap order_of given in omega (arith, wrong)) down)) lost
  stays_down (EndAuthority place) before after (other, route, is, does) same down lost =
      where_stays Down before (with_route place (come_to (phase.Ended now 0)) before) after does down
      (λ due. route_down number place (come_to (phase.Ended now 0)) before (λ one at here was given. let wrong : 3 ≡ 1 = ap order_of given in omega (arith, wrong)) down) lost
  stays_down (FreeSection place) before after (other, route, is, does) same down lost =
      where_stays Down before (with_route place (one_freed other route.phase) before) after does down
      (λ due. route_down number place (one_freed other route.phase) before (λ one at here was given. next_down table before.ixl other route one due given) down) lost
  stays_down (Passed place) before after (other, route, is, (alike, none)) same down lost = lost (subst Down (sym alike) down)
  stays_down (FreeCancelled place) before after (other, route, is, does) same down lost =
      where_stays Down before (with_route place freed before) after does down
      (λ due. route_down number place freed before (λ one at here was given. let wrong : 4 ≡ 1 = ap order_of given in omega (arith, wrong)) down) lost
  stays_down (MovePoint place need) before after (other, route, is, does) same down lost =
      where_stays Down before (giving_move now need.point need.side before) after does down
      (λ due. same_down number before (giving_move now need.point need.side before) (move_keeps now need.point need.side before) down) lost
  stays_down (Proceed place) before after (other, route, is, does) same down lost =
      where_stays Down before (giving_aspect now other.entry other.aspect (with_route place (authorised table before.ixl other) before)) after does down
      (λ due. same_down number (with_route place (authorised table before.ixl other) before) (giving_aspect now other.entry other.aspect (with_route place (authorised table before.ixl other) before))
      (aspect_keeps now other.entry other.aspect (with_route place (authorised table before.ixl other) before))
      (route_down number place (authorised table before.ixl other) before
      (λ one at here was given. none_due before route (there, ap (λ n. slice_get before.ixl.routes n) here ∙ is.1) same
      (subst (λ (r : Row). ProceedDue now table before.ixl r route) (some_same (sym is.0 ∙ ap (λ n. slice_get table.rows n) (sym here) ∙ there)) due)) down)) lost
  stays_down (Beat node) before after alike same down lost = lost (subst Down (sym alike) (same_down number before (beaten now node before) (beaten_keeps now node before) down))

  abbrev Fallen : StepSoFar → Type 0
  Fallen part = Reason part × IsDown number part

  fallen_kept : (turn : Turn) (before after : StepSoFar) → DoesItsTurn now table turn before after → Fallen before → Stays (Fallen after)
  fallen_kept turn before after does (same, down) lost =
      keeps turn before after does same (λ still. stays_down turn before after does same down (λ yet. lost (still, yet)))

  -- where rule 1 has come to the route its aspect is down
  down_there : (taken : TurnTaken) → DoesItsTurn now table (Withdraw number) taken.before taken.after → Reason taken.before → IsDown number taken.after
  down_there taken (other, route, is, does) same = by_phase route.phase refl where
    withdrawn : StepSoFar
    withdrawn = with_route number (come_to phase.Withdrawn) taken.before

    as_before : (p : Phase) → route.phase ≡ p → (p ≡ phase.Proceeding → ⊥) → IsDown number taken.after
    as_before p at apart one kept given =
        let after : taken.after ≡ taken.before = does.otherwise (λ due. apart (sym at ∙ due.given))
        in let kept_before : slice_get taken.before.ixl.routes number ≡ Some one = ap (λ (s : StepSoFar). slice_get s.ixl.routes number) (sym after) ∙ kept
        in apart (sym at ∙ ap (λ (r : RouteState). r.phase) (some_same (sym is.1 ∙ kept_before)) ∙ given)

    by_phase : (p : Phase) → route.phase ≡ p → IsDown number taken.after
    by_phase phase.Proceeding at = is_withdrawn where
      after : taken.after ≡ stopped now other (with_route number (come_to phase.Withdrawn) taken.before)
      after = does.due (subst (λ (r : Row). StopDue table taken.before.ixl r route) (some_same (sym there ∙ is.0)) (stop_due taken.before route (there, is.1) same at))

      is_withdrawn : IsDown number taken.after
      is_withdrawn one kept given =
          let kept_there : slice_get (with_route number (come_to phase.Withdrawn) taken.before).ixl.routes number ≡ Some one =
          ap (λ (routes : List RouteState). slice_get routes number) (sym (ap (λ (s : StepSoFar). s.ixl.routes) after ∙ stopped_keeps now other (with_route number (come_to phase.Withdrawn) taken.before))) ∙ kept
          in let found = changed_here (come_to phase.Withdrawn) number taken.before.ixl.routes one kept_there
          in let wrong : 2 ≡ 1 = ap order_of (sym (ap (λ (r : RouteState). r.phase) found.2) ∙ given)
          in omega (arith, wrong)
    by_phase phase.Free at = as_before phase.Free at (λ same_phase. let wrong : 4 ≡ 1 = ap order_of same_phase in omega (arith, wrong))
    by_phase phase.Waiting at = as_before phase.Waiting at (λ same_phase. let wrong : 0 ≡ 1 = ap order_of same_phase in omega (arith, wrong))
    by_phase phase.Withdrawn at = as_before phase.Withdrawn at (λ same_phase. let wrong : 2 ≡ 1 = ap order_of same_phase in omega (arith, wrong))
    by_phase (phase.Ended clock done) at = as_before (phase.Ended clock done) at (λ same_phase. let wrong : 3 ≡ 1 = ap order_of same_phase in omega (arith, wrong))

  down_at_end : (turns : List TurnTaken) (begin end : StepSoFar) → Reason begin → Follow now table begin turns end → (place : ℕ) (taken : TurnTaken) → slice_get turns place ≡ Some taken → taken.turn ≡ Withdraw number → IsDown number end
  down_at_end turns begin end begins follow place taken at turn route is given =
      let does : DoesItsTurn now table taken.turn taken.before taken.after = turn_at now table turns begin end follow place taken at
      in up_to now table Reason keeps turns begin end follow place taken at begins
      (λ same. keeps taken.turn taken.before taken.after does same
      (λ still. from_turn now table Fallen fallen_kept turns begin end follow place taken at
      (still, down_there taken (subst (λ (t : Turn). DoesItsTurn now table t taken.before taken.after) turn does) same)
      (λ end_is. end_is.1 route is given)))

-- ---- rule 1 comes to each route

one_each : {A : Type 0} (turn : ℕ → Turn) (from place : ℕ) (list : List A) (one : A) → slice_get list place ≡ Some one → slice_get (for_each (λ number some. turn number ∷ []) from list) place ≡ Some (turn (from + place))
one_each turn from place [] one is = absurd (none_is is)
one_each turn from zero (first ∷ others) one is = let same : from ≡ from + 0 = omega arith in ap (λ n. Some (turn n)) same
one_each turn from (suc place) (first ∷ others) one is = let same : suc from + place ≡ from + suc place = omega arith in one_each turn (suc from) place others one is ∙ ap (λ n. Some (turn n)) same

in_first : {A : Type 0} (some more : List A) (place : ℕ) (one : A) → slice_get some place ≡ Some one → slice_get (some ++ more) place ≡ Some one
in_first [] more place one is = absurd (none_is is)
in_first (first ∷ others) more zero one is = is
in_first (first ∷ others) more (suc place) one is = in_first others more place one is

in_second : {A : Type 0} (some more : List A) (place : ℕ) (one : A) → slice_get more place ≡ Some one → (further : ℕ) × (slice_get (some ++ more) further ≡ Some one)
in_second [] more place one is = (place, is)
in_second (first ∷ others) more place one is = let found = in_second others more place one is in (suc found.0, found.1)

pub mapped_from : {A B : Type 0} (f : A → B) (list : List A) (place : ℕ) (image : B) → slice_get (map f list) place ≡ Some image → (one : A) × (slice_get list place ≡ Some one) × (f one ≡ image)
mapped_from f [] place image is = absurd (none_is is)
mapped_from f (first ∷ others) zero image is = (first, refl, some_same is)
mapped_from f (first ∷ others) (suc place) image is = mapped_from f others place image is

pub rule_comes : (turns : List TurnTaken) (rows : List Row) (more : List Turn) (number : ℕ) (row : Row) → slice_get rows number ≡ Some row → map (λ (taken : TurnTaken). taken.turn) turns ≡ turns_of_rules rows ++ more →
    (place : ℕ) × (taken : TurnTaken) × (slice_get turns place ≡ Some taken) × (taken.turn ≡ Withdraw number)
rule_comes turns rows more number row there are =
    let here : slice_get (for_each (λ n some. Withdraw n ∷ []) 0 rows) number ≡ Some (Withdraw (0 + number)) = one_each Withdraw 0 number rows row there
    in let same : 0 + number ≡ number = omega arith
    in let found = in_second (for_each (λ n some. Watch n ∷ []) 0 rows) _ number (Withdraw number) (in_first (for_each (λ n some. Withdraw n ∷ []) 0 rows) _ number (Withdraw number) (here ∙ ap (λ n. Some (Withdraw n)) same))
    in let whole = in_first (turns_of_rules rows) more found.0 (Withdraw number) found.1
    in let one = mapped_from (λ (taken : TurnTaken). taken.turn) turns found.0 (Withdraw number) (ap (λ (list : List Turn). slice_get list found.0) are ∙ whole)
    in (found.0, one.0, one.1, one.2)

module _ (now : ℕ) (table : Table) (turns : List TurnTaken) (more : List Turn) (begin end : StepSoFar) (number : ℕ) (row : Row) (there : slice_get table.rows number ≡ Some row)
    (are : map (λ (taken : TurnTaken). taken.turn) turns ≡ turns_of_rules table.rows ++ more) (follow : Follow now table begin turns end) where
  -- what is unsound stays so, since nothing is learnt
  pub unsound_falls : IsUnsound table begin.ixl row → IsDown number end
  unsound_falls unsound =
      let found = rule_comes turns table.rows more number row there are
      in down_at_end now table number row there (LearnsNothing table begin.ixl) (learns_kept now table begin.ixl) none_due stop_due turns begin end (nothing_at_first table begin) follow found.0 found.1 found.2 found.3
    where
      unsound_yet : (part : StepSoFar) → LearnsNothing table begin.ixl part → IsUnsound table part.ixl row
      unsound_yet part same = by_cause unsound where
        by_cause : IsUnsound table begin.ixl row → IsUnsound table part.ixl row
        by_cause (inl (inl points)) = inl (inl (λ all. points (λ k d within. same.known _ _ (all k d within))))
        by_cause (inl (inr clear)) = inl (inr (λ all. clear (λ k d within. same.clear _ (all k d within))))
        by_cause (inr ready) = inr (λ is. ready (same.ready row.entry is))

      none_due : (part : StepSoFar) (route : RouteState) → IsRouteOf table part.ixl number row route → LearnsNothing table begin.ixl part → ProceedDue now table part.ixl row route → ⊥
      none_due part route is same due = by_cause (unsound_yet part same) where
        by_cause : IsUnsound table part.ixl row → ⊥
        by_cause (inl (inl points)) = points due.points
        by_cause (inl (inr clear)) = clear due.clear
        by_cause (inr ready) = ready due.ready

      stop_due : (part : StepSoFar) (route : RouteState) → IsRouteOf table part.ixl number row route → LearnsNothing table begin.ixl part → route.phase ≡ phase.Proceeding → StopDue table part.ixl row route
      stop_due part route is same given = by_cause (unsound_yet part same) where
        by_cause : IsUnsound table part.ixl row → StopDue table part.ixl row route
        by_cause (inl (inl points)) = record { given = given; why = inl (inl (inr points)) }
        by_cause (inl (inr clear)) = record { given = given; why = inl (inr clear) }
        by_cause (inr ready) = record { given = given; why = inr ready }

  -- a route that is cancelled stays so until it is free
  pub cancelled_falls : (was : RouteState) → slice_get begin.ixl.routes number ≡ Some was → was.cancelled ≡ true → IsDown number end
  cancelled_falls was is cancelled =
      let found = rule_comes turns table.rows more number row there are
      in down_at_end now table number row there (IsOff number) (off_kept now table number) none_due stop_due turns begin end
      (λ route also. inl (ap (λ (r : RouteState). r.cancelled) (some_same (sym also ∙ is)) ∙ cancelled)) follow found.0 found.1 found.2 found.3
    where
      none_due : (part : StepSoFar) (route : RouteState) → IsRouteOf table part.ixl number row route → IsOff number part → ProceedDue now table part.ixl row route → ⊥
      none_due part route is off due = by_cause (off route is.1) where
        by_cause : Off route → ⊥
        by_cause (inl yet) = false≢true (sym due.goes_on ∙ yet)
        by_cause (inr free) = let wrong : 4 ≡ 0 = ap order_of (sym free ∙ due.waits) in omega (arith, wrong)

      stop_due : (part : StepSoFar) (route : RouteState) → IsRouteOf table part.ixl number row route → IsOff number part → route.phase ≡ phase.Proceeding → StopDue table part.ixl row route
      stop_due part route is off given = by_cause (off route is.1) where
        by_cause : Off route → StopDue table part.ixl row route
        by_cause (inl yet) = record { given = given; why = inl (inl (inl yet)) }
        by_cause (inr free) = let wrong : 4 ≡ 1 = ap order_of (sym free ∙ given) in absurd (omega (arith, wrong))
