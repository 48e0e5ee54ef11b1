-- A route that holds a point with authority by no more than it did, through a step: it doesn't hold it so, or is just given authority.
use Rattle.simulator_recovery.proofs.Words.Basics.{◌≡◌, ◌⊎◌, inl, inr, ℕ, suc, ◌<◌, ◌≤◌, ◌==◌, ◌&&◌, Bool, true, false, nat_lt, if◌then◌else◌, List, length, Option, Some, None, slice_get, refl, sym, ap, subst, ◌∙◌, arith, ltb-true, ltb-false, ◌||◌, Contains, false≢true, All-contains, same_Some}
use Rattle.simulator_recovery.proofs.Words.Links.{reading_of, reading, Key}
use Rattle.simulator_recovery.proofs.Words.Interlockings.{begun, hearing, commanded_by, obeyed, refusal, released_at, set_anew, AllKnown, At, Known, authorised, come_to, count, ended, ending_authority, freed, freed_by_cancel, freed_by_passage, freeing_by_cancel, freeing_by_passage, freeing_next, frees_cancelled, frees_next, is_move_due, is_proceed_due, is_proceeding, is_stop_due, is_withdrawn, moved, moving, moving_one, one_freed, proceeding, ruled, withdrawing, withdrawn, IxlState, KnownPointState, RouteState, Commands, Datagram, Input, Tick, addressed, all_clocked, detector_hearing, given, known_point_hearing, known_signal_hearing, looking, looking_by, looks, node_hearing, occupied_heard, route_looks, stepped, ticked, watching, Detector, Node as IxlNode, Point, Signal, StepSoFar, begun_with, detector_after, empty_outbox, giving_aspect, noted, over, with_detector, with_one, with_route, Need, Row, Table, freed_sections, is_at_known_stop, is_set, place_in, was_authorised, Command, Refusal, Phase, giving_move}
use Rattle.simulator_recovery.proofs.Words.Stations.{Site, interlocking_stepped, key_of, WorldState}
use Rattle.simulator_recovery.proofs.Words.Recovery.{IsInside}
use Rattle.simulator_recovery.proofs.Lemmas.RoutesComing.DueCourse.{at_changed, stopped_leaves}
use Rattle.simulator_recovery.proofs.Lemmas.Ground.DueShapes.{along_keeps, moving_keeps, one_keeps, over_keeps, passage_keeps, route_keeps, where_keeps}
use Rattle.simulator_recovery.proofs.Lemmas.Ground.DueTests.{known_then, first_true}
use Rattle.simulator_recovery.proofs.Lemmas.RoutesComing.DueKnown.{BringsNothing, known_still, ticks_bring_nothing}
use Rattle.simulator_recovery.proofs.Lemmas.RoutesComing.NothingDueMoves.{move_leaves}
use Rattle.simulator_recovery.proofs.Lemmas.RoutesComing.NothingDueProceeds.{AspectLeaves, aspect_leaves}
use Rattle.simulator_recovery.proofs.Lemmas.Lamps.StopsGiven.{changed_elsewhere, differs, is_equal}
use Rattle.simulator_recovery.proofs.Lemmas.Ground.MovedAtOnce.{moved_keeps}

-- In this phase a route holds no point with authority that awaits so many sections.
abbrev pub HoldsNone : ℕ → Phase → Type 0
HoldsNone until Phase.Free = Unit {0}
HoldsNone until Phase.Waiting = Unit {0}
HoldsNone until Phase.Proceeding = ⊥
HoldsNone until Phase.Withdrawn = ⊥
HoldsNone until (Phase.Ended clock freed) = until ≤ freed

pub none_held : (until : ℕ) (p : Phase) → HoldsNone until p → was_authorised p ≡ true → freed_sections p < until → ⊥
none_held until Phase.Free none authority awaits = false≢true authority
none_held until Phase.Waiting none authority awaits = false≢true authority
none_held until Phase.Proceeding none authority awaits = none
none_held until Phase.Withdrawn none authority awaits = none
none_held until (Phase.Ended clock done) none authority awaits = omega (arith, none, awaits)

-- of a point that waits for one section at least
pub none_or : (until : ℕ) → 0 < until → (p : Phase) → HoldsNone until p ⊎ ((was_authorised p ≡ true) × (is_set p ≡ true) × (freed_sections p < until))
none_or until some Phase.Free = inl tt
none_or until some Phase.Waiting = inl tt
none_or until some Phase.Proceeding = inr (refl, refl, some)
none_or until some Phase.Withdrawn = inr (refl, refl, some)
none_or until some (Phase.Ended clock done) = choose (nat_lt done until) refl
  where
    choose : (b : Bool) → nat_lt done until ≡ b
        → HoldsNone until (Phase.Ended clock done) ⊎ ((was_authorised (Phase.Ended clock done) ≡ true) × (is_set (Phase.Ended clock done) ≡ true) × (done < until))
    choose true e = inr (refl, refl, ltb-true _ _ e)
    choose false e = inl (ltb-false _ _ e)

module _ (now : ℕ) (table : Table) (k until : ℕ) where
  abbrev pub Holds : RouteState → Type 0
  Holds route = HoldsNone until route.phase

  abbrev pub HeldNone : StepSoFar → Type 0
  HeldNone part = At part.ixl.routes k Holds

  quietly : (number : ℕ) (change : RouteState → RouteState) (part : StepSoFar) → ((route : RouteState) → (change route).phase ≡ route.phase) → HeldNone part → HeldNone (with_route number change part)
  quietly number change part quiet is = at_changed Holds k number change part.ixl.routes (λ route same there holds. subst (HoldsNone until) (sym (quiet route)) holds) is

  -- what is done at a route of the table
  turned : (number : ℕ) (change : RouteState → RouteState) (part : StepSoFar) (route : RouteState) → slice_get part.ixl.routes number ≡ Some route → (Holds route → Holds (change route))
      → HeldNone part
      → HeldNone (with_route number change part)
  turned number change part route here so is = at_changed Holds k number change part.ixl.routes (λ one same there holds.
      let it : one ≡ route = same_Some one route (sym there ∙ (ap (slice_get part.ixl.routes) same ∙ here))
      in subst (λ (r : RouteState). Holds (change r)) (sym it) (so (subst Holds it holds))) is

  no_proceeding : (p : Phase) → HoldsNone until p → is_proceeding p ≡ true → ⊥
  no_proceeding Phase.Free holds e = false≢true e
  no_proceeding Phase.Waiting holds e = false≢true e
  no_proceeding Phase.Proceeding holds e = holds
  no_proceeding Phase.Withdrawn holds e = holds
  no_proceeding (Phase.Ended clock done) holds e = false≢true e

  no_withdrawn : (p : Phase) → HoldsNone until p → is_withdrawn p ≡ true → ⊥
  no_withdrawn Phase.Free holds e = false≢true e
  no_withdrawn Phase.Waiting holds e = false≢true e
  no_withdrawn Phase.Proceeding holds e = holds
  no_withdrawn Phase.Withdrawn holds e = holds
  no_withdrawn (Phase.Ended clock done) holds e = false≢true e

  freed_more : (row : Row) (route : RouteState) (p : Phase) (ixl : IxlState) (one : RouteState) → HoldsNone until p → frees_next table ixl row one p ≡ true → Holds (one_freed row p route)
  freed_more row route Phase.Free ixl one holds due = absurd (false≢true due)
  freed_more row route Phase.Waiting ixl one holds due = absurd (false≢true due)
  freed_more row route Phase.Proceeding ixl one holds due = absurd holds
  freed_more row route Phase.Withdrawn ixl one holds due = absurd holds
  freed_more row route (Phase.Ended clock done) ixl one holds due = choose (suc done == length row.sections)
    where
      choose : (b : Bool) → Holds (if b then freed route else come_to (Phase.Ended clock (suc done)) route)
      choose true = tt
      choose false = omega (arith, holds)

  -- ---- the rules up to the fifth

  withdrawing_none : (number : ℕ) (part : StepSoFar) → HeldNone part → HeldNone (withdrawing now table number part)
  unfolding withdrawing
  withdrawing_none number part is = route_keeps HeldNone table number _ part (λ row route there here. where_keeps HeldNone (is_stop_due table part.ixl row route) part _
      (λ due. subst (λ (routes : List RouteState). At routes k Holds) (sym (stopped_leaves now row (with_route number (come_to Phase.Withdrawn) part)).routes)
      (turned number (come_to Phase.Withdrawn) part route here (λ holds. absurd (no_proceeding route.phase holds (first_true (is_proceeding route.phase) _ due))) is)) is) is

  ending_none : (number : ℕ) (part : StepSoFar) → HeldNone part → HeldNone (ending_authority now table number part)
  unfolding ending_authority
  ending_none number part is = route_keeps HeldNone table number _ part (λ row route there here. where_keeps HeldNone (is_withdrawn route.phase && is_at_known_stop now part.ixl row.entry) part _
      (λ due. turned number _ part route here (λ holds. absurd (no_withdrawn route.phase holds (first_true (is_withdrawn route.phase) (is_at_known_stop now part.ixl row.entry) due))) is) is) is

  next_none : (number : ℕ) (part : StepSoFar) → HeldNone part → HeldNone (freeing_next table number part)
  unfolding freeing_next
  next_none number part is = route_keeps HeldNone table number _ part (λ row route there here. where_keeps HeldNone (frees_next table part.ixl row route route.phase) part _
      (λ due. turned number (one_freed row route.phase) part route here (λ holds. freed_more row route route.phase part.ixl route holds due) is) is) is

  passage_none : (number : ℕ) (part : StepSoFar) → HeldNone part → HeldNone (freeing_by_passage table number part)
  passage_none = passage_keeps HeldNone now table next_none

  cancel_none : (number : ℕ) (part : StepSoFar) → HeldNone part → HeldNone (freeing_by_cancel now table number part)
  unfolding freeing_by_cancel
  cancel_none number part is = route_keeps HeldNone table number _ part (λ row route there here. where_keeps HeldNone (route.cancelled && frees_cancelled now table part.ixl row route route.phase) part _
      (λ due. turned number freed part route here (λ holds. tt) is) is) is

  moving_one_none : (number : ℕ) (need : Need) (part : StepSoFar) → HeldNone part → HeldNone (moving_one now table number need part)
  unfolding moving_one
  moving_one_none number need part is = route_keeps HeldNone table number _ part (λ row route there here. where_keeps HeldNone (is_move_due table part.ixl number route need) part _
      (λ due. subst (λ (routes : List RouteState). At routes k Holds) (sym (move_leaves now need.point need.side part).routes) is) is) is

  pub moving_none : (number : ℕ) (part : StepSoFar) → HeldNone part → HeldNone (moving now table number part)
  moving_none = moving_keeps HeldNone now table moving_one_none

  pub until_moved : (part : StepSoFar) → HeldNone part → HeldNone (moved now table part)
  until_moved part is =
      over_keeps HeldNone (moving now table) moving_none (count table) (freed_by_cancel now table part)
      (over_keeps HeldNone (freeing_by_cancel now table) cancel_none (count table) (freed_by_passage now table part)
      (over_keeps HeldNone (freeing_by_passage table) passage_none (count table) (ended now table part)
      (over_keeps HeldNone (ending_authority now table) ending_none (count table) (withdrawn now table part)
      (over_keeps HeldNone (withdrawing now table) withdrawing_none (count table) part is))))

  -- ---- what is heard

  watching_none : (number : ℕ) (part : StepSoFar) → HeldNone part → HeldNone (watching table number part)
  unfolding watching
  watching_none number part is = route_keeps HeldNone table number _ part (λ row route there here. where_keeps HeldNone (is_proceeding route.phase || is_withdrawn route.phase) part _
      (λ due. quietly number _ part (λ one. refl) is) is) is

  looks_same : (section : ℕ) (occupied : Bool) (row : Row) (route : RouteState) → (route_looks section occupied row route).phase ≡ route.phase
  looks_same section occupied row route = by_place (place_in section row.sections) refl
    where
      by_place : (found : Option ℕ) → place_in section row.sections ≡ found → (route_looks section occupied row route).phase ≡ route.phase
      by_place None e = rw e refl
      by_place (Some place) e = rw e refl

  looking_none : (look : ℕ × Bool) (part : StepSoFar) → HeldNone part → HeldNone (looking table look part)
  unfolding looking_by
  looking_none look part is = over_keeps HeldNone (looking_by look.0 look.1 table)
      (λ number q all. route_keeps HeldNone table number _ q (λ row route there here. where_keeps HeldNone (was_authorised route.phase) q _
      (λ due. quietly number (route_looks look.0 look.1 row) q (looks_same look.0 look.1 row) all) all) all) (count table) part is

  hearing_none : (bytes : List ℕ) (node : IxlNode) (part : StepSoFar) → HeldNone part → HeldNone (node_hearing now table bytes node part)
  unfolding node_hearing known_signal_hearing known_point_hearing detector_hearing
  hearing_none bytes (Signal place) part is = one_keeps HeldNone (slice_get part.ixl.known_signals place) _ part (λ known e. is) is
  hearing_none bytes (Point place) part is = one_keeps HeldNone (slice_get part.ixl.known_points place) _ part (λ known e. is) is
  hearing_none bytes (Detector place) part is = one_keeps HeldNone (slice_get table.detectors place) _ part (λ sections f. one_keeps HeldNone (slice_get part.ixl.detectors place) _ part (λ known e.
      let done = hearing now bytes (begun known.client part.outbox)
      in along_keeps HeldNone (looking table) looking_none (looks sections known done.heard done.client)
      (with_detector place (detector_after (occupied_heard done.heard known.occupied) done.client) (noted (Detector place) done part)) is) is) is

  obeyed_none : (command : Command) (part : StepSoFar) → HeldNone part → HeldNone (record part { ixl = obeyed now command part.ixl })
  unfolding obeyed
  obeyed_none (Command.Request route) part is = at_changed Holds k route.0 set_anew part.ixl.routes (λ one same there holds. tt) is
  obeyed_none (Command.Cancel route) part is = at_changed Holds k route.0 (λ old. record old { cancelled = true }) part.ixl.routes (λ one same there holds. holds) is
  obeyed_none Command.Resume part is = is
  obeyed_none (Command.Release route) part is = at_changed Holds k route.0 (released_at now) part.ixl.routes (λ one same there holds. holds) is
  obeyed_none (Command.Move point side) part is = is
  obeyed_none (Command.Close named) part is = is
  obeyed_none (Command.Open named) part is = is

  commanded_none : (cause : Option Refusal) (command : Command) (part : StepSoFar) → HeldNone part → HeldNone (record part { ixl = commanded_by now cause command part.ixl })
  commanded_none None command part is = obeyed_none command part is
  commanded_none (Some cause) command part is = is

  heard_at : (bytes : List ℕ) (found : Option IxlNode) (part : StepSoFar) → HeldNone part → HeldNone (with_one found (node_hearing now table bytes) part)
  heard_at bytes None part is = is
  heard_at bytes (Some node) part is = hearing_none bytes node part is

  given_none : (key : Key) (input : Input) (part : StepSoFar) → HeldNone part → HeldNone (given now table key input part)
  unfolding given giving_move
  given_none key Tick part is = is
  given_none key (Datagram bytes) part is = heard_at bytes (addressed (reading key bytes) part.ixl) part is
  given_none key (Commands command) part is =
      moved_keeps HeldNone now table (λ point side q available all. one_keeps HeldNone (slice_get q.ixl.known_points point) _ q (λ known e. all) all)
      (refusal now table command part.ixl) command part refl (commanded_none (refusal now table command part.ixl) command part is)

  clocked_none : (part : StepSoFar) → HeldNone part → HeldNone (record part { ixl = all_clocked now part.ixl })
  unfolding all_clocked
  clocked_none part is = is

  pub seen_none : (key : Key) (input : Input) (part : StepSoFar) → HeldNone part → HeldNone (over (watching table) (count table)
      (given now table key input (record part { ixl = all_clocked now part.ixl })))
  seen_none key input part is = over_keeps HeldNone (watching table) watching_none (count table) _ (given_none key input (record part { ixl = all_clocked now part.ixl }) (clocked_none part is))

  -- ---- the last rule, for a point that the route requires

  module _ (row : Row) (row_there : slice_get table.rows k ≡ Some row) (need : Need) (within : Contains row.needs need) where
    -- it holds none with authority, or the point is known at its side
    abbrev pub NoneOrKnown : StepSoFar → Type 0
    NoneOrKnown part = HeldNone part ⊎ Known part.ixl need.point need.side

    pub proceeding_or : (number : ℕ) (part : StepSoFar) → NoneOrKnown part → NoneOrKnown (proceeding now table number part)
    unfolding proceeding
    proceeding_or number part is = route_keeps NoneOrKnown table number _ part (λ other one there here. where_keeps NoneOrKnown (is_proceed_due now table part.ixl other one) part _
        (λ due. given_so other one there due) is) is
      where
        given_so : (other : Row) (one : RouteState) → slice_get table.rows number ≡ Some other → is_proceed_due now table part.ixl other one ≡ true
            → NoneOrKnown (giving_aspect now other.entry other.aspect (with_route number (authorised table part.ixl other) part))
        given_so other one there due = by_number (k == number) refl is
          where
            after : IxlState
            after = (giving_aspect now other.entry other.aspect (with_route number (authorised table part.ixl other) part)).ixl

            leaves : AspectLeaves other.entry (with_route number (authorised table part.ixl other) part).ixl after
            leaves = aspect_leaves now other.entry other.aspect (with_route number (authorised table part.ixl other) part)

            known_still_so : Known part.ixl need.point need.side → Known after need.point need.side
            known_still_so known = subst (λ (ps : List KnownPointState). Known (record part.ixl { known_points = ps }) need.point need.side) (sym leaves.points) known

            by_number : (b : Bool) → (k == number) ≡ b → NoneOrKnown part → NoneOrKnown (giving_aspect now other.entry other.aspect (with_route number (authorised table part.ixl other) part))
            by_number b e (inr known) = inr (known_still_so known)
            by_number true e (inl none) =
                let same_row : other ≡ row = same_Some other row (sym there ∙ (ap (slice_get table.rows) (sym (is_equal k number e)) ∙ row_there))
                in inr (known_still_so (All-contains (λ (own : Need). Known part.ixl own.point own.side) row.needs need
                (subst (λ (r : Row). AllKnown part.ixl r.needs) same_row (known_then now table part.ixl other one due)) within))
            by_number false e (inl none) = inl (subst (λ (routes : List RouteState). At routes k Holds) (sym leaves.routes)
                (none.0, changed_elsewhere (authorised table part.ixl other) number k part.ixl.routes (differs k number e) ∙ none.1, none.2))

    pub ruled_or : (part : StepSoFar) → HeldNone part → NoneOrKnown (ruled now table part)
    ruled_or part is = over_keeps NoneOrKnown (proceeding now table) proceeding_or (count table) (moved now table part) (inl (until_moved part is))

-- ---- a step

module _ (site : Site) (table : Table) (k : ℕ) (row : Row) (row_there : slice_get table.rows k ≡ Some row) (need : Need) (within : Contains row.needs need) where
  abbrev pub HoldsNoneAt : IxlState → Type 0
  HoldsNoneAt ixl = At ixl.routes k (λ route. HoldsNone need.until route.phase)

  -- after it the route holds none with authority, or the point is known at its side, unless its link fell
  abbrev pub NoneOrSided : IxlState → Type 0
  NoneOrSided ixl = HoldsNoneAt ixl ⊎ (IsInside ixl need.point → Known ixl need.point need.side)

  -- where it was so after the rules, ticks keep it
  pub ticked_or : (now : ℕ) (input : Input) (part : StepSoFar) → NoneOrKnown now table k need.until row row_there need within part → NoneOrSided (ticked now input part).ixl
  ticked_or now input part is = choose is
    where
      brings : BringsNothing part.ixl (ticked now input part).ixl
      brings = ticks_bring_nothing now input part

      choose : NoneOrKnown now table k need.until row row_there need within part → NoneOrSided (ticked now input part).ixl
      choose (inl none) = inl (subst (λ (routes : List RouteState). At routes k (λ route. HoldsNone need.until route.phase)) (sym brings.routes) none)
      choose (inr known) = inr (λ inside. known_still table part.ixl (ticked now input part).ixl brings need.point need.side inside.0 inside.1 inside.2 known)

  pub step_or : (input : Input) (world : WorldState) → HoldsNoneAt world.interlocking.ixl → NoneOrSided (interlocking_stepped site table input world).interlocking.ixl
  unfolding interlocking_stepped stepped
  step_or input world is = ticked_or now input (ruled now table seen) (ruled_or now table k need.until row row_there need within seen (seen_none now table k need.until (key_of site) input begins is))
    where
      now : ℕ
      now = reading_of world.interlocking.clock

      begins : StepSoFar
      begins = begun_with world.interlocking.ixl empty_outbox

      seen : StepSoFar
      seen = over (watching table) (count table) (given now table (key_of site) input (record begins { ixl = all_clocked now begins.ixl }))
