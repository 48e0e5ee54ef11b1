-- No stop waits that is due, where the links that the route needs are ready.
use Rattle.simulator_recovery.proofs.Words.Basics.{◌≡◌, ◌≢◌, ◌⊎◌, inl, inr, ℕ, suc, ◌<◌, ◌==◌, ◌&&◌, Bool, true, false, if◌then◌else◌, List, length, Option, Some, None, slice_get, refl, sym, ap, subst, ◌∙◌, arith, Contains, false≢true, nat_tests, All-contains, Contains-get_or, none-some, same_Some}
use Rattle.simulator_recovery.proofs.Words.Links.{reading_of}
use Rattle.simulator_recovery.proofs.Words.Interlockings.{IsHeldUntil, IsTableOf, as_route, is_ready, AllClear, AllKnown, IsClear, IsHeldWithAuthority, IsRouteOf, IsSignalReady, Known, StopDue, authorised, come_to, count, ended, ending_authority, freed, freed_by_cancel, freed_by_passage, freeing_by_cancel, freeing_by_passage, freeing_next, frees_cancelled, frees_next, is_move_due, is_proceed_due, is_stop_due, is_withdrawn, moved, moving, moving_one, one_freed, proceeding, ruled, stopped, withdrawing, withdrawn, IxlState, KnownDetectorState, KnownPointState, RouteState, Input, all_clocked, given, stepped, ticked, watching, StepSoFar, begun_with, empty_outbox, giving_aspect, over, with_route, Need, Row, Table, freed_sections, is_at_known_stop, is_set, was_authorised, Phase}
use Rattle.simulator_recovery.proofs.Words.Stations.{Site, Beginning, new_ixl, new_route_of, interlocking_stepped, key_of, WorldState, IsReached}
use Rattle.simulator_recovery.proofs.Words.Recovery.{HasLinksReady, IsDetectorReady, IsPointReady, MoveLaw, StopLaw}
use Rattle.simulator_recovery.proofs.Lemmas.RoutesComing.DueCourse.{stopped_leaves}
use Rattle.simulator_recovery.proofs.Lemmas.Ground.DueShapes.{each_over, moving_keeps, no_route, no_row, over_keeps, passage_keeps, route_keeps, where_keeps}
use Rattle.simulator_recovery.proofs.Lemmas.Ground.DueTests.{clear_surely, clear_then, known_surely, known_then}
use Rattle.simulator_recovery.proofs.Lemmas.RoutesComing.DueKnown.{BringsNothing, clear_still, known_still, ticks_bring_nothing}
use Rattle.simulator_recovery.proofs.Lemmas.Windows.WaitingItems.{ready_inside}
use Rattle.simulator_recovery.proofs.Lemmas.Ground.IxlAlways.{always_whole}
use Rattle.simulator_recovery.proofs.Lemmas.Ground.IxlClients.{changed_at, mapped_at}
use Rattle.simulator_recovery.proofs.Lemmas.RoutesComing.NothingDueMoves.{MoveLeaves, move_leaves}
use Rattle.simulator_recovery.proofs.Lemmas.RoutesComing.NothingDueProceeds.{AspectLeaves, aspect_leaves}
use Rattle.simulator_recovery.proofs.Lemmas.Ground.SignalParts.{not_cancelled_there}
use Rattle.simulator_recovery.proofs.Lemmas.Silence.Spent.{within_some}
use Rattle.simulator_recovery.proofs.Lemmas.Lamps.StopsGiven.{changed_here, differs, is_equal}

-- What a route's aspect rests on, as far as the links are ready.
pub record Rests (table : Table) (ixl : IxlState) (row : Row) (route : RouteState) : Type 0 where
  pub goes_on : route.cancelled ≡ false
  pub points : (need : Need) → Contains row.needs need → IsPointReady ixl need.point → Known ixl need.point need.side
  pub sections : (section : ℕ) → Contains row.sections section → IsDetectorReady table ixl section → IsClear table ixl section

rests_still : (table : Table) (old new : IxlState) (row : Row) (route : RouteState) → new.known_points ≡ old.known_points → new.detectors ≡ old.detectors → Rests table old row route → Rests table new row route
rests_still table old new row route points detectors rests = record {
  goes_on = rests.goes_on;
  points = λ need within ready. subst (λ (ps : List KnownPointState). Known (record new { known_points = ps }) need.point need.side) (sym points)
      (rests.points need within (subst (λ (ps : List KnownPointState). IsPointReady (record new { known_points = ps }) need.point) points ready));
  sections = λ section within ready. subst (λ (ds : List KnownDetectorState). IsClear table (record new { detectors = ds }) section) (sym detectors)
      (rests.sections section within (subst (λ (ds : List KnownDetectorState). IsDetectorReady table (record new { detectors = ds }) section) detectors ready));
}

-- where stop isn't due
rests_where : (table : Table) (ixl : IxlState) (row : Row) (route : RouteState) → route.phase ≡ Phase.Proceeding → (StopDue table ixl row route → ⊥) → Rests table ixl row route
rests_where table ixl row route proceeds never = record {
  goes_on = uncancelled route.cancelled refl;
  points = λ need within ready. known_surely ixl need.point need.side (λ unknown. never (record { given = proceeds; why = inl (inl (inr (λ all. unknown (All-contains (λ (one : Need). Known ixl one.point one.side) row.needs need all within)))) }));
  sections = λ section within ready. clear_surely table ixl section (λ occupied. never (record { given = proceeds; why = inl (inr (λ all. occupied (All-contains (IsClear table ixl) row.sections section all within))) }));
}
  where
    uncancelled : (b : Bool) → route.cancelled ≡ b → route.cancelled ≡ false
    uncancelled true e = absurd (never (record { given = proceeds; why = inl (inl (inl e)) }))
    uncancelled false e = e

-- A route that proceeds rests on what is known.
abbrev pub RouteRests : Table → ℕ → IxlState → Type 0
RouteRests table k ixl = (row : Row) (route : RouteState) → IsRouteOf table ixl k row route → route.phase ≡ Phase.Proceeding → Rests table ixl row route

-- each point is held for one section at least
abbrev pub HoldsEach : Table → Type 0
HoldsEach table = (number : ℕ) (row : Row) (need : Need) → slice_get table.rows number ≡ Some row → Contains row.needs need → 0 < need.until

module _ (now : ℕ) (table : Table) (k : ℕ) where
  abbrev Held : StepSoFar → Type 0
  Held part = RouteRests table k part.ixl

  -- a route comes to another phase than this
  otherwise : (number : ℕ) (change : RouteState → RouteState) (part : StepSoFar) → ((route : RouteState) → slice_get part.ixl.routes number ≡ Some route → (change route).phase ≢ Phase.Proceeding) → Held part → Held (with_route number change part)
  otherwise number change part never is row route there proceeds = choose (changed_at change number part.ixl.routes k route there.1)
    where
      choose : ((k ≡ number) × (was : RouteState) × (slice_get part.ixl.routes number ≡ Some was) × (route ≡ change was)) ⊎ (slice_get part.ixl.routes k ≡ Some route) → Rests table (with_route number change part).ixl row route
      choose (inl (same, was, e, so)) = absurd (never was e (ap (λ (r : RouteState). r.phase) (sym so) ∙ proceeds))
      choose (inr e) = rests_still table part.ixl (with_route number change part).ixl row route refl refl (is row route (there.0, e) proceeds)

  withdrawing_held : (number : ℕ) (part : StepSoFar) → Held part → Held (withdrawing now table number part)
  unfolding withdrawing
  withdrawing_held number part is = route_keeps Held table number _ part (λ other one there here. where_keeps Held (is_stop_due table part.ixl other one) part _ (λ due. fallen other) is) is
    where
      fallen : (other : Row) → Held (stopped now other (with_route number (come_to Phase.Withdrawn) part))
      fallen other row route is_route proceeds =
          let leaves = stopped_leaves now other (with_route number (come_to Phase.Withdrawn) part)
          in rests_still table (with_route number (come_to Phase.Withdrawn) part).ixl (stopped now other (with_route number (come_to Phase.Withdrawn) part)).ixl row route leaves.points leaves.detectors
          (otherwise number (come_to Phase.Withdrawn) part (λ one e. λ so. cc so) is row route (is_route.0, ap (λ (routes : List RouteState). slice_get routes k) (sym leaves.routes) ∙ is_route.1) proceeds)

  ending_held : (number : ℕ) (part : StepSoFar) → Held part → Held (ending_authority now table number part)
  unfolding ending_authority
  ending_held number part is = route_keeps Held table number _ part (λ other one there here. where_keeps Held (is_withdrawn one.phase && is_at_known_stop now part.ixl other.entry) part _ (λ due. otherwise number (come_to (Phase.Ended now 0)) part (λ route e. λ so. cc so) is) is) is

  freed_otherwise : (table : Table) (ixl : IxlState) (row : Row) (route one : RouteState) (p : Phase) → frees_next table ixl row route p ≡ true → (one_freed row p one).phase ≢ Phase.Proceeding
  freed_otherwise table ixl row route one Phase.Free due so = false≢true due
  freed_otherwise table ixl row route one Phase.Waiting due so = false≢true due
  freed_otherwise table ixl row route one Phase.Proceeding due so = false≢true due
  freed_otherwise table ixl row route one Phase.Withdrawn due so = false≢true due
  freed_otherwise table ixl row route one (Phase.Ended clock done) due so = choose (suc done == length row.sections) so
    where
      choose : (b : Bool) → (if b then freed one else come_to (Phase.Ended clock (suc done)) one).phase ≡ Phase.Proceeding → ⊥
      choose true e = cc e
      choose false e = cc e

  next_held : (number : ℕ) (part : StepSoFar) → Held part → Held (freeing_next table number part)
  unfolding freeing_next
  next_held number part is = route_keeps Held table number _ part (λ other one there here. where_keeps Held (frees_next table part.ixl other one one.phase) part _
      (λ due. otherwise number (one_freed other one.phase) part (λ route e. freed_otherwise table part.ixl other one route one.phase due) is) is) is

  passage_held : (number : ℕ) (part : StepSoFar) → Held part → Held (freeing_by_passage table number part)
  passage_held = passage_keeps Held now table next_held

  cancel_held : (number : ℕ) (part : StepSoFar) → Held part → Held (freeing_by_cancel now table number part)
  unfolding freeing_by_cancel
  cancel_held number part is = route_keeps Held table number _ part (λ other one there here. where_keeps Held (one.cancelled && frees_cancelled now table part.ixl other one one.phase) part _ (λ due. otherwise number freed part (λ route e. λ so. cc so) is) is) is

  -- the rules up to the fifth, after the first
  until_freed : (part : StepSoFar) → Held (withdrawn now table part) → Held (freed_by_cancel now table part)
  until_freed part is =
      over_keeps Held (freeing_by_cancel now table) cancel_held (count table) (freed_by_passage now table part)
      (over_keeps Held (freeing_by_passage table) passage_held (count table) (ended now table part)
      (over_keeps Held (ending_authority now table) ending_held (count table) (withdrawn now table part) is))

  -- ---- the first rule

  module _ (law : StopLaw) where
    none_there : (part : StepSoFar) → slice_get part.ixl.routes k ≡ None → withdrawing now table k part ≡ part
    unfolding withdrawing
    none_there part none = no_route table k _ part none

    own_turn : (part : StepSoFar) → Held (withdrawing now table k part)
    own_turn part row route is proceeds = by_found (slice_get part.ixl.routes k) refl
      where
        at_k : StepSoFar → Option RouteState
        at_k q = slice_get q.ixl.routes k

        stopped_then : (was : RouteState) → slice_get part.ixl.routes k ≡ Some was → withdrawing now table k part ≡ stopped now row (with_route k (come_to Phase.Withdrawn) part) → ⊥
        stopped_then was e given = cc (sym proceeds ∙ ap (λ (r : RouteState). r.phase) (same_Some route (come_to Phase.Withdrawn was) (sym is.1 ∙ (ap at_k given
            ∙ (ap (λ (routes : List RouteState). slice_get routes k) (stopped_leaves now row (with_route k (come_to Phase.Withdrawn) part)).routes ∙ changed_here (come_to Phase.Withdrawn) k part.ixl.routes was e)))))

        by_found : (found : Option RouteState) → slice_get part.ixl.routes k ≡ found → Rests table (withdrawing now table k part).ixl row route
        by_found None e = absurd (none-some route (sym (ap at_k (none_there part e) ∙ e) ∙ is.1))
        by_found (Some was) e =
            let does = law now table k part row was (is.0, e)
            in let never : StopDue table part.ixl row was → ⊥ = λ due. stopped_then was e (does.due due)
            in let same : withdrawing now table k part ≡ part = does.otherwise never
            in let still : route ≡ was = same_Some route was (sym is.1 ∙ (ap at_k same ∙ e))
            in subst (λ (q : StepSoFar). Rests table q.ixl row route) (sym same) (rests_where table part.ixl row route proceeds (λ due. never (subst (StopDue table part.ixl row) still due)))

  -- ---- the fifth rule

  module _ (law : MoveLaw) (holds : HoldsEach table) where
    pub one_leaves : (number : ℕ) (need : Need) (part : StepSoFar) → MoveLeaves need.point part.ixl (moving_one now table number need part).ixl
    unfolding moving_one
    one_leaves number need part = route_keeps Q table number _ part (λ other one there here. where_keeps Q (is_move_due table part.ixl number one need) part _ (λ due. move_leaves now need.point need.side part) nothing) nothing
      where
        Q : StepSoFar → Type 0
        Q q = MoveLeaves need.point part.ixl q.ixl

        nothing : Q part
        nothing = record { routes = refl; signals = refl; detectors = refl; closed = refl; points = λ other differ. refl }

    -- a point that is held with authority isn't moved
    pub held_stays : (number : ℕ) (need : Need) (part : StepSoFar) → IsHeldWithAuthority table part.ixl need.point → moving_one now table number need part ≡ part
    unfolding moving_one
    held_stays number need part held = by_row (slice_get table.rows number) refl (slice_get part.ixl.routes number) refl
      where
        by_row : (found : Option Row) → slice_get table.rows number ≡ found → (one : Option RouteState) → slice_get part.ixl.routes number ≡ one → moving_one now table number need part ≡ part
        by_row found e None f = no_route table number _ part f
        by_row None e (Some one) f = no_row table number _ part e
        by_row (Some other) e (Some one) f = (law now table number need part other one (e, f)).otherwise (λ due. due.unheld held)

    one_held : (number : ℕ) (need : Need) (part : StepSoFar) → Held part → Held (moving_one now table number need part)
    one_held number need part is row route there proceeds = record {
      goes_on = rests.goes_on;
      points = λ own within ready. by_point own within ready (own.point == need.point) refl;
      sections = λ section within ready. subst (λ (ds : List KnownDetectorState). IsClear table (record after { detectors = ds }) section) (sym leaves.detectors)
          (rests.sections section within (subst (λ (ds : List KnownDetectorState). IsDetectorReady table (record after { detectors = ds }) section) leaves.detectors ready));
    }
      where
        after : IxlState
        after = (moving_one now table number need part).ixl

        leaves : MoveLeaves need.point part.ixl after
        leaves = one_leaves number need part

        before : IsRouteOf table part.ixl k row route
        before = (there.0, ap (λ (routes : List RouteState). slice_get routes k) (sym leaves.routes) ∙ there.1)

        rests : Rests table part.ixl row route
        rests = is row route before proceeds

        held : (own : Need) → Contains row.needs own → own.point ≡ need.point → IsHeldWithAuthority table part.ixl need.point
        held own within same = (k, row, route, own.side, before, ap was_authorised proceeds, (ap is_set proceeds, (own, within, same, refl, subst (λ (n : ℕ). n < own.until) (sym (ap freed_sections proceeds)) (holds k row own there.0 within))))

        by_point : (own : Need) → Contains row.needs own → IsPointReady after own.point → (b : Bool) → (own.point == need.point) ≡ b → Known after own.point own.side
        by_point own within ready true e =
            let same = held_stays number need part (held own within (is_equal own.point need.point e))
            in subst (λ (q : StepSoFar). Known q.ixl own.point own.side) (sym same) (rests.points own within (subst (λ (q : StepSoFar). IsPointReady q.ixl own.point) same ready))
        by_point own within ready false e =
            let same = leaves.points own.point (differs own.point need.point e)
            in let known = rests.points own within (ready.0, sym same ∙ ready.1, ready.2)
            in (known.0, same ∙ known.1, known.2)

    moving_held : (number : ℕ) (part : StepSoFar) → Held part → Held (moving now table number part)
    moving_held = moving_keeps Held now table one_held

  -- ---- the last rule

  proceeding_held : (number : ℕ) (part : StepSoFar) → Held part → Held (proceeding now table number part)
  unfolding proceeding
  proceeding_held number part is = route_keeps Held table number _ part (λ other one there here. where_keeps Held (is_proceed_due now table part.ixl other one) part _ (λ due. given_so other one there here due) is) is
    where
      given_so : (other : Row) (one : RouteState) → slice_get table.rows number ≡ Some other → slice_get part.ixl.routes number ≡ Some one → is_proceed_due now table part.ixl other one ≡ true
          → Held (giving_aspect now other.entry other.aspect (with_route number (authorised table part.ixl other) part))
      given_so other one there here due row route is_route proceeds = rests_still table part.ixl given_it.ixl row route leaves.points leaves.detectors
          (choose (changed_at (authorised table part.ixl other) number part.ixl.routes k route (ap (λ (routes : List RouteState). slice_get routes k) (sym leaves.routes) ∙ is_route.1)))
        where
          given_it : StepSoFar
          given_it = giving_aspect now other.entry other.aspect (with_route number (authorised table part.ixl other) part)

          leaves : AspectLeaves other.entry (with_route number (authorised table part.ixl other) part).ixl given_it.ixl
          leaves = aspect_leaves now other.entry other.aspect (with_route number (authorised table part.ixl other) part)

          choose : ((k ≡ number) × (was : RouteState) × (slice_get part.ixl.routes number ≡ Some was) × (route ≡ authorised table part.ixl other was)) ⊎ (slice_get part.ixl.routes k ≡ Some route) → Rests table part.ixl row route
          choose (inl (same, was, e, so)) =
              let same_row : other ≡ row = same_Some other row (sym there ∙ (ap (slice_get table.rows) (sym same) ∙ is_route.0))
              in record {
                goes_on = ap (λ (r : RouteState). r.cancelled) so ∙ (ap (λ (r : RouteState). r.cancelled) (same_Some was one (sym e ∙ here)) ∙ not_cancelled_there now table part.ixl other one due);
                points = λ need within ready. All-contains (λ (own : Need). Known part.ixl own.point own.side) row.needs need (subst (λ (r : Row). AllKnown part.ixl r.needs) same_row (known_then now table part.ixl other one due)) within;
                sections = λ section within ready. All-contains (IsClear table part.ixl) row.sections section (subst (λ (r : Row). AllClear table part.ixl r.sections) same_row (clear_then now table part.ixl other one due)) within;
              }
          choose (inr e) = is row route (is_route.0, e) proceeds

-- ---- ticks

rests_ticked : (table : Table) (old new : IxlState) → BringsNothing old new → (row : Row) (route : RouteState) → Rests table old row route → Rests table new row route
rests_ticked table old new brings row route rests = record {
  goes_on = rests.goes_on;
  points = λ need within ready.
      let was = brings.points need.point ready.0 ready.1
      in let inside = ready_inside ready.0.client.stage ready.2
      in known_still table old new brings need.point need.side ready.0 ready.1 inside (rests.points need within (was.was, was.there, ap is_ready (sym (was.stands inside).stage) ∙ ready.2));
  sections = λ section within ready.
      let known = ready.2.0
      in let was = brings.detectors ready.0.0 known ready.2.1
      in let inside = ready_inside known.client.stage ready.2.2
      in clear_still table old new brings section ready.0 known ready.1 ready.2.1 inside (rests.sections section within (ready.0, ready.1, (was.was, was.there, ap is_ready (sym (was.stands inside).stage) ∙ ready.2.2)));
}

-- ---- each step, and every list of events

module _ (stop : StopLaw) (move : MoveLaw) (site : Site) (table : Table) (holds : HoldsEach table) where
  abbrev pub AllRest : IxlState → Type 0
  AllRest ixl = (k : ℕ) → RouteRests table k ixl

  -- after the first rule at so many routes
  abbrev Behind : ℕ → StepSoFar → Type 0
  Behind n part = (k : ℕ) → k < n → RouteRests table k part.ixl

  one_more : (now n : ℕ) (part : StepSoFar) → Behind n part → Behind (suc n) (withdrawing now table n part)
  one_more now n part is k few = decide (k == n) refl
    where
      decide : (b : Bool) → (k == n) ≡ b → RouteRests table k (withdrawing now table n part).ixl
      decide true e = subst (λ (m : ℕ). RouteRests table m (withdrawing now table n part).ixl) (sym (is_equal k n e)) (own_turn now table n stop part)
      decide false e = withdrawing_held now table k n part (is k fewer)
        where
          fewer : k < n
          fewer = grind (arith, nat_tests, e, few)

  ruled_rests : (now : ℕ) (part : StepSoFar) → AllRest (ruled now table part).ixl
  ruled_rests now part k row route is = over_keeps (Held now table k) (proceeding now table) (proceeding_held now table k) (count table) (moved now table part)
      (over_keeps (Held now table k) (moving now table) (moving_held now table k move holds) (count table) (freed_by_cancel now table part)
      (until_freed now table k part (each_over Behind (withdrawing now table) (one_more now) (count table) part (λ other few. absurd (omega (arith, few))) k (within_some table.rows k row is.0)))) row route is

  step_rests : (input : Input) (world : WorldState) → AllRest (interlocking_stepped site table input world).interlocking.ixl
  unfolding interlocking_stepped stepped
  step_rests input world k row route is proceeds = rests_ticked table (ruled now table seen).ixl (ticked now input (ruled now table seen)).ixl brings row route
      (ruled_rests now seen k row route (is.0, ap (λ (routes : List RouteState). slice_get routes k) (sym brings.routes) ∙ is.1) proceeds)
    where
      now : ℕ
      now = reading_of world.interlocking.clock

      begins : StepSoFar
      begins = begun_with world.interlocking.ixl empty_outbox

      seen : StepSoFar
      seen = over (watching table) (count table) (given now table (key_of site) input (record begins { ixl = all_clocked now begins.ixl }))

      brings : BringsNothing (ruled now table seen).ixl (ticked now input (ruled now table seen)).ixl
      brings = ticks_bring_nothing now input (ruled now table seen)

  new_rests : (begins : Beginning) → AllRest (new_ixl site table begins)
  unfolding new_ixl
  new_rests begins k row route is proceeds = let found = mapped_at new_route_of table.rows k route is.1 in absurd (cc (sym (ap (λ (r : RouteState). r.phase) found.2) ∙ proceeds))

  pub all_rest : (world : WorldState) → IsReached site table world → AllRest world.interlocking.ixl
  all_rest world reached = always_whole site table AllRest new_rests (λ input before is. step_rests input before) world reached

pub holds_each : (site : Site) (table : Table) → IsTableOf site table → HoldsEach table
holds_each site table is number row need there within = by_place (All-contains (IsHeldUntil site (as_route number) row.sections) row.needs need (is.rows.their number row there).until within)
  where
    by_place : IsHeldUntil site (as_route number) row.sections need → 0 < need.until
    by_place held = let until = held.until in omega (arith, until)

pub nothing_stops : StopLaw → MoveLaw → (site : Site) (table : Table) (world : WorldState) (number : ℕ) (row : Row) (route : RouteState) → IsTableOf site table → IsReached site table world → IsRouteOf table world.interlocking.ixl number row route
    → HasLinksReady table world.interlocking.ixl row → StopDue table world.interlocking.ixl row route → ⊥
nothing_stops stop move site table world number row route is_table reached is ready due = choose due.why
  where
    rests : Rests table world.interlocking.ixl row route
    rests = all_rest stop move site table (holds_each site table is_table) world reached number row route is due.given

    choose : (((route.cancelled ≡ true) ⊎ (AllKnown world.interlocking.ixl row.needs → ⊥)) ⊎ (AllClear table world.interlocking.ixl row.sections → ⊥)) ⊎ (IsSignalReady world.interlocking.ixl row.entry → ⊥) → ⊥
    choose (inl (inl (inl cancelled))) = false≢true (sym rests.goes_on ∙ cancelled)
    choose (inl (inl (inr unknown))) = unknown (λ place other within. rests.points _ (Contains-get_or row.needs place other within) (ready.points _ (Contains-get_or row.needs place other within)))
    choose (inl (inr occupied)) = occupied (λ place other within. rests.sections _ (Contains-get_or row.sections place other within) (ready.detectors _ (Contains-get_or row.sections place other within)))
    choose (inr unready) = unready ready.signal
