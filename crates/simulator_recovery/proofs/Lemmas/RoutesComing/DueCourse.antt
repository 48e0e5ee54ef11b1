-- How a set route goes on over an event: it waits, or proceeds.
use Rattle.simulator_recovery.proofs.Words.Basics.{◌≡◌, ◌≢◌, ◌⊎◌, inl, inr, ℕ, ◌==◌, ◌&&◌, Bool, true, false, if◌then◌else◌, List, Option, Some, None, slice_get, refl, sym, ap, subst, ◌∙◌, ◌||◌, not, false≢true, none-some, same_Some}
use Rattle.simulator_recovery.proofs.Words.Links.{reading_of, reading, Key}
use Rattle.simulator_recovery.proofs.Words.Controllers.{Aspect}
use Rattle.simulator_recovery.proofs.Words.Interlockings.{begun, hearing, commanded_by, obeyed, refusal, released_at, request_refusal, set_anew, AllClear, AllKnown, At, IsSignalReady, StopDue, authorised, come_to, count, ended, ending_authority, freed, freed_by_cancel, freed_by_passage, freeing_by_cancel, freeing_by_passage, freeing_next, frees_cancelled, frees_next, is_move_due, is_proceed_due, is_proceeding, is_stop_due, is_withdrawn, moved, moving, moving_one, one_freed, proceeding, ruled, stopped, withdrawing, withdrawn, IxlState, KnownDetectorState, KnownPointState, RouteState, changed, Commands, Datagram, Input, Tick, addressed, all_clocked, detector_hearing, given, known_point_hearing, known_signal_hearing, looking, looking_by, looks, node_hearing, occupied_heard, route_looks, stepped, ticked, watching, Detector, Node as IxlNode, Point, Signal, StepSoFar, begun_with, detector_after, empty_outbox, giving_aspect, noted, over, with_detector, with_one, with_route, Need, Row, Table, is_at_known_stop, is_set, is_signal_ready, place_in, was_authorised, Command, Refusal, Phase, giving_move}
use Rattle.simulator_recovery.proofs.Words.Stations.{Site, RouteId, Event, happens, interlocking_stepped, key_of, node_at, WorldState, IsReached}
use Rattle.simulator_recovery.proofs.Words.Recovery.{CancelsNot, IsUpheld, KeepsSetting, HasAspect, UpholdsAspect, Waits, input_of, known_in_step, StopLaw}
use Rattle.simulator_recovery.proofs.Lemmas.Lamps.ConfirmedStops.{standing_then}
use Rattle.simulator_recovery.proofs.Lemmas.Ground.IxlAlways.{MakesAnew, event_then, input_is}
use Rattle.simulator_recovery.proofs.Lemmas.Ground.DueShapes.{along_keeps, moving_keeps, one_keeps, over_keeps, passage_keeps, route_keeps, where_keeps}
use Rattle.simulator_recovery.proofs.Lemmas.RoutesComing.DueKnown.{ticks_bring_nothing}
use Rattle.simulator_recovery.proofs.Lemmas.RoutesComing.NothingDueMoves.{move_leaves}
use Rattle.simulator_recovery.proofs.Lemmas.RoutesComing.NothingDueProceeds.{AspectLeaves, aspect_leaves}
use Rattle.simulator_recovery.proofs.Lemmas.Ground.SignalParts.{watched_held, withdrawing_held}
use Rattle.simulator_recovery.proofs.Lemmas.Lamps.StopsGiven.{AnyCommand, StopsStand, changed_elsewhere, changed_here, differs, is_equal, proceeding_set, request_unset, stand_keep}
use Rattle.simulator_recovery.proofs.Lemmas.Ground.DueTests.{first_true}
use Rattle.simulator_recovery.proofs.Lemmas.Ground.MovedAtOnce.{moved_keeps}

-- ---- one route of a list

pub at_changed : (F : RouteState → Type 0) (k number : ℕ) (change : RouteState → RouteState) (routes : List RouteState) → ((route : RouteState) → k ≡ number → slice_get routes k ≡ Some route → F route → F (change route))
    → At routes k F → At (changed change number routes) k F
at_changed F k number change routes so is = decide (k == number) refl
  where
    decide : (b : Bool) → (k == number) ≡ b → At (changed change number routes) k F
    decide true e =
        let same : k ≡ number = is_equal k number e
        in (change is.0, ap (slice_get (changed change number routes)) same ∙ changed_here change number routes is.0 (ap (slice_get routes) (sym same) ∙ is.1), so is.0 same is.1 is.2)
    decide false e = (is.0, changed_elsewhere change number k routes (differs k number e) ∙ is.1, is.2)

-- What is so of a route depends on its phase, and on whether it is cancelled: it isn't, and the route waits, or proceeds.
pub record CourseKeeps (F : RouteState → Type 0) : Type 0 where
  pub same : (old new : RouteState) → new.phase ≡ old.phase → new.cancelled ≡ old.cancelled → F old → F new
  pub goes_on : (route : RouteState) → F route → route.cancelled ≡ false
  pub stands : (route : RouteState) → F route → (route.phase ≡ Phase.Waiting) ⊎ (route.phase ≡ Phase.Proceeding)

abbrev pub GoesOn : RouteState → Type 0
GoesOn route = Waits route ⊎ HasAspect route

pub waits_keep : CourseKeeps Waits
waits_keep = record {
  same = λ old new same cancelled is. (same ∙ is.0, cancelled ∙ is.1);
  goes_on = λ route is. is.1;
  stands = λ route is. inl is.0;
}

pub proceeds_keep : CourseKeeps HasAspect
proceeds_keep = record {
  same = λ old new same cancelled is. (same ∙ is.0, cancelled ∙ is.1);
  goes_on = λ route is. is.1;
  stands = λ route is. inr is.0;
}

-- the command leaves the route its setting
abbrev pub LeavesSetting : ℕ → Input → Type 0
LeavesSetting k (Commands command) = CancelsNot k command
LeavesSetting k _ = Unit {0}

-- ---- the parts of a step that leave it

module _ (now : ℕ) (table : Table) (k : ℕ) (F : RouteState → Type 0) (keep : CourseKeeps F) where
  abbrev Held : StepSoFar → Type 0
  Held part = At part.ixl.routes k F

  quietly : (number : ℕ) (change : RouteState → RouteState) (part : StepSoFar) → ((route : RouteState) → ((change route).phase ≡ route.phase) × ((change route).cancelled ≡ route.cancelled)) → Held part → Held (with_route number change part)
  quietly number change part quiet is = at_changed F k number change part.ixl.routes (λ route same there holds. keep.same route (change route) (quiet route).0 (quiet route).1 holds) is

  -- what is done at a route of the table
  turned : (number : ℕ) (change : RouteState → RouteState) (part : StepSoFar) (route : RouteState) → slice_get part.ixl.routes number ≡ Some route → (F route → F (change route)) → Held part → Held (with_route number change part)
  turned number change part route here so is = at_changed F k number change part.ixl.routes (λ one same there holds.
      let it : one ≡ route = same_Some one route (sym there ∙ (ap (slice_get part.ixl.routes) same ∙ here))
      in subst (λ (r : RouteState). F (change r)) (sym it) (so (subst F it holds))) is

  by_phase : (test : Phase → Bool) → test Phase.Waiting ≡ false → test Phase.Proceeding ≡ false → (route : RouteState) → F route → test route.phase ≡ true → ⊥
  by_phase test waits proceeds route holds due = choose (keep.stands route holds)
    where
      choose : (route.phase ≡ Phase.Waiting) ⊎ (route.phase ≡ Phase.Proceeding) → ⊥
      choose (inl e) = false≢true (sym (ap test e ∙ waits) ∙ due)
      choose (inr e) = false≢true (sym (ap test e ∙ proceeds) ∙ due)

  -- ---- the rules from the second to the fifth

  ending_held : (number : ℕ) (part : StepSoFar) → Held part → Held (ending_authority now table number part)
  unfolding ending_authority
  ending_held number part is = route_keeps Held table number _ part (λ row route there here. where_keeps Held (is_withdrawn route.phase && is_at_known_stop now part.ixl row.entry) part _
      (λ due. turned number _ part route here (λ holds. absurd (by_phase is_withdrawn refl refl route holds (first_true (is_withdrawn route.phase) (is_at_known_stop now part.ixl row.entry) due))) is) is) is

  next_held : (number : ℕ) (part : StepSoFar) → Held part → Held (freeing_next table number part)
  unfolding freeing_next
  next_held number part is = route_keeps Held table number _ part (λ row route there here. where_keeps Held (frees_next table part.ixl row route route.phase) part _
      (λ due. turned number (one_freed row route.phase) part route here (λ holds. absurd (by_phase (frees_next table part.ixl row route) refl refl route holds due)) is) is) is

  passage_held : (number : ℕ) (part : StepSoFar) → Held part → Held (freeing_by_passage table number part)
  passage_held = passage_keeps Held now table next_held

  cancel_held : (number : ℕ) (part : StepSoFar) → Held part → Held (freeing_by_cancel now table number part)
  unfolding freeing_by_cancel
  cancel_held number part is = route_keeps Held table number _ part (λ row route there here. where_keeps Held (route.cancelled && frees_cancelled now table part.ixl row route route.phase) part _
      (λ due. turned number freed part route here (λ holds. absurd (false≢true (sym (keep.goes_on route holds) ∙ first_true route.cancelled (frees_cancelled now table part.ixl row route route.phase) due))) is) is) is

  moving_one_held : (number : ℕ) (need : Need) (part : StepSoFar) → Held part → Held (moving_one now table number need part)
  unfolding moving_one
  moving_one_held number need part is = route_keeps Held table number _ part (λ row route there here. where_keeps Held (is_move_due table part.ixl number route need) part _
      (λ due. subst (λ (routes : List RouteState). At routes k F) (sym (move_leaves now need.point need.side part).routes) is) is) is

  moving_held : (number : ℕ) (part : StepSoFar) → Held part → Held (moving now table number part)
  moving_held = moving_keeps Held now table moving_one_held

  pub until_moved : (part : StepSoFar) → Held (withdrawn now table part) → Held (moved now table part)
  until_moved part is =
      over_keeps Held (moving now table) moving_held (count table) (freed_by_cancel now table part)
      (over_keeps Held (freeing_by_cancel now table) cancel_held (count table) (freed_by_passage now table part)
      (over_keeps Held (freeing_by_passage table) passage_held (count table) (ended now table part)
      (over_keeps Held (ending_authority now table) ending_held (count table) (withdrawn now table part) is)))

  -- ---- ticks

  pub ticked_held : (input : Input) (part : StepSoFar) → Held part → Held (ticked now input part)
  ticked_held input part is = subst (λ (routes : List RouteState). At routes k F) (sym (ticks_bring_nothing now input part).routes) is

  -- ---- what is heard

  pub watching_held : (number : ℕ) (part : StepSoFar) → Held part → Held (watching table number part)
  unfolding watching
  watching_held number part is = route_keeps Held table number _ part (λ row route there here. where_keeps Held (is_proceeding route.phase || is_withdrawn route.phase) part _ (λ due. quietly number _ part (λ one. (refl, refl)) is) is) is

  looks_same : (section : ℕ) (occupied : Bool) (row : Row) (route : RouteState) → ((route_looks section occupied row route).phase ≡ route.phase) × ((route_looks section occupied row route).cancelled ≡ route.cancelled)
  looks_same section occupied row route = by_place (place_in section row.sections) refl
    where
      by_place : (found : Option ℕ) → place_in section row.sections ≡ found → ((route_looks section occupied row route).phase ≡ route.phase) × ((route_looks section occupied row route).cancelled ≡ route.cancelled)
      by_place None e = rw e (refl, refl)
      by_place (Some place) e = rw e (refl, refl)

  looking_held : (look : ℕ × Bool) (part : StepSoFar) → Held part → Held (looking table look part)
  unfolding looking_by
  looking_held look part is = over_keeps Held (looking_by look.0 look.1 table) (λ number q all. route_keeps Held table number _ q (λ row route there here. where_keeps Held (was_authorised route.phase) q _
      (λ due. quietly number (route_looks look.0 look.1 row) q (looks_same look.0 look.1 row) all) all) all) (count table) part is

  hearing_held : (bytes : List ℕ) (node : IxlNode) (part : StepSoFar) → Held part → Held (node_hearing now table bytes node part)
  unfolding node_hearing known_signal_hearing known_point_hearing detector_hearing
  hearing_held bytes (Signal place) part is = one_keeps Held (slice_get part.ixl.known_signals place) _ part (λ known e. is) is
  hearing_held bytes (Point place) part is = one_keeps Held (slice_get part.ixl.known_points place) _ part (λ known e. is) is
  hearing_held bytes (Detector place) part is = one_keeps Held (slice_get table.detectors place) _ part (λ sections f. one_keeps Held (slice_get part.ixl.detectors place) _ part (λ known e.
      let done = hearing now bytes (begun known.client part.outbox)
      in along_keeps Held (looking table) looking_held (looks sections known done.heard done.client)
      (with_detector place (detector_after (occupied_heard done.heard known.occupied) done.client) (noted (Detector place) done part)) is) is) is

  -- a request of a route that is set is refused
  not_set_anew : (route : RouteId) (ixl : IxlState) (one : RouteState) → slice_get ixl.routes route.0 ≡ Some one → refusal now table (Command.Request route) ixl ≡ None → F one → ⊥
  unfolding refusal
  not_set_anew route ixl one there none holds = by_row (slice_get table.rows route.0) asked
    where
      asked : request_refusal now table ixl route.0 (slice_get table.rows route.0) (Some one) ≡ None
      asked = ap (request_refusal now table ixl route.0 (slice_get table.rows route.0)) (sym there) ∙ none

      by_row : (found : Option Row) → request_refusal now table ixl route.0 found (Some one) ≡ None → ⊥
      by_row None e = cc e
      by_row (Some row) e = by_phase (λ p. not (is_set p)) refl refl one holds (ap not (request_unset now table ixl route.0 row one e))

  obeyed_held : (command : Command) (part : StepSoFar) → CancelsNot k command → refusal now table command part.ixl ≡ None → Held part → Held (record part { ixl = obeyed now command part.ixl })
  unfolding obeyed
  obeyed_held (Command.Request route) part leaves none is = at_changed F k route.0 set_anew part.ixl.routes
      (λ one same there holds. absurd (not_set_anew route part.ixl one (ap (slice_get part.ixl.routes) (sym same) ∙ there) none holds)) is
  obeyed_held (Command.Cancel route) part leaves none is = at_changed F k route.0 (λ old. record old { cancelled = true }) part.ixl.routes (λ one same there holds. absurd (leaves (sym same))) is
  obeyed_held Command.Resume part leaves none is = is
  obeyed_held (Command.Release route) part leaves none is = at_changed F k route.0 (released_at now) part.ixl.routes (λ one same there holds. keep.same one (released_at now one) refl refl holds) is
  obeyed_held (Command.Move point side) part leaves none is = is
  obeyed_held (Command.Close named) part leaves none is = is
  obeyed_held (Command.Open named) part leaves none is = is

  commanded_held : (cause : Option Refusal) (command : Command) (part : StepSoFar) → refusal now table command part.ixl ≡ cause → CancelsNot k command → Held part → Held (record part { ixl = commanded_by now cause command part.ixl })
  commanded_held None command part none leaves is = obeyed_held command part leaves none is
  commanded_held (Some cause) command part refused leaves is = is

  heard_at : (bytes : List ℕ) (found : Option IxlNode) (part : StepSoFar) → Held part → Held (with_one found (node_hearing now table bytes) part)
  heard_at bytes None part is = is
  heard_at bytes (Some node) part is = hearing_held bytes node part is

  given_held : (key : Key) (input : Input) (part : StepSoFar) → LeavesSetting k input → Held part → Held (given now table key input part)
  unfolding given giving_move
  given_held key Tick part leaves is = is
  given_held key (Datagram bytes) part leaves is = heard_at bytes (addressed (reading key bytes) part.ixl) part is
  given_held key (Commands command) part leaves is =
      moved_keeps Held now table (λ point side q available all. one_keeps Held (slice_get q.ixl.known_points point) _ q (λ known e. all) all)
      (refusal now table command part.ixl) command part refl (commanded_held (refusal now table command part.ixl) command part refl leaves is)

  clocked_held : (part : StepSoFar) → Held part → Held (record part { ixl = all_clocked now part.ixl })
  unfolding all_clocked
  clocked_held part is = is

  -- before the rules
  pub seen_held : (key : Key) (input : Input) (part : StepSoFar) → LeavesSetting k input → Held part → Held (over (watching table) (count table) (given now table key input (record part { ixl = all_clocked now part.ixl })))
  seen_held key input part leaves is = over_keeps Held (watching table) watching_held (count table) _ (given_held key input (record part { ixl = all_clocked now part.ixl }) leaves (clocked_held part is))

-- ---- the first rule and the last

-- giving stop changes one signal at most
pub stopped_leaves : (now : ℕ) (row : Row) (part : StepSoFar) → AspectLeaves row.entry part.ixl (stopped now row part).ixl
stopped_leaves now row part = choose (is_signal_ready part.ixl row.entry)
  where
    choose : (b : Bool) → AspectLeaves row.entry part.ixl (if b then giving_aspect now row.entry Aspect.Stop part else part).ixl
    choose true = aspect_leaves now row.entry Aspect.Stop part
    choose false = record { routes = refl; points = refl; detectors = refl; closed = refl; signals = λ other differ. refl }

module _ (now : ℕ) (table : Table) (k : ℕ) where
  -- a route that waits isn't withdrawn
  pub waits_held : (number : ℕ) (part : StepSoFar) → At part.ixl.routes k Waits → At (withdrawing now table number part).ixl.routes k Waits
  unfolding withdrawing
  waits_held number part is = route_keeps Q table number _ part (λ row route there here. where_keeps Q (is_stop_due table part.ixl row route) part _
      (λ due. subst (λ (routes : List RouteState). At routes k Waits) (sym (stopped_leaves now row (with_route number (come_to Phase.Withdrawn) part)).routes)
      (turned now table k Waits waits_keep number (come_to Phase.Withdrawn) part route here
      (λ holds. absurd (false≢true (sym (ap is_proceeding holds.0) ∙ first_true (is_proceeding route.phase) _ due))) is)) is) is
    where
      Q : StepSoFar → Type 0
      Q q = At q.ixl.routes k Waits

  -- it proceeds where it is given its aspect
  goes_on_held : (number : ℕ) (part : StepSoFar) → At part.ixl.routes k GoesOn → At (proceeding now table number part).ixl.routes k GoesOn
  unfolding proceeding
  goes_on_held number part is = route_keeps Q table number _ part (λ row route there here. where_keeps Q (is_proceed_due now table part.ixl row route) part _
      (λ due. subst (λ (routes : List RouteState). At routes k GoesOn) (sym (aspect_leaves now row.entry row.aspect (with_route number (authorised table part.ixl row) part)).routes)
      (at_changed GoesOn k number (authorised table part.ixl row) part.ixl.routes (λ one same at holds. inr (refl, uncancelled one holds)) is)) is) is
    where
      Q : StepSoFar → Type 0
      Q q = At q.ixl.routes k GoesOn

      uncancelled : (route : RouteState) → GoesOn route → route.cancelled ≡ false
      uncancelled route (inl waits) = waits.1
      uncancelled route (inr proceeds) = proceeds.1

  -- and is given it once
  pub proceeds_held : (number : ℕ) (part : StepSoFar) → At part.ixl.routes k HasAspect → At (proceeding now table number part).ixl.routes k HasAspect
  unfolding proceeding
  proceeds_held number part is = route_keeps Q table number _ part (λ row route there here. where_keeps Q (is_proceed_due now table part.ixl row route) part _
      (λ due. subst (λ (routes : List RouteState). At routes k HasAspect) (sym (aspect_leaves now row.entry row.aspect (with_route number (authorised table part.ixl row) part)).routes)
      (at_changed HasAspect k number (authorised table part.ixl row) part.ixl.routes (λ one same at holds. (refl, holds.1)) is)) is) is
    where
      Q : StepSoFar → Type 0
      Q q = At q.ixl.routes k HasAspect

-- that the first rule withdraws where stop is due
module _ (law : StopLaw) (now : ℕ) (table : Table) (k : ℕ) (row : Row) (row_there : slice_get table.rows k ≡ Some row) where
  -- a route that proceeds, upheld, where set routes stand apart
  record Upheld (part : StepSoFar) : Type 0 where
    stand : StopsStand table part.ixl.routes part.ixl.known_signals
    upheld : IsUpheld table part.ixl row
    proceeds : At part.ixl.routes k HasAspect

  no_stop : (ixl : IxlState) (route : RouteState) → IsUpheld table ixl row → route.cancelled ≡ false → StopDue table ixl row route → ⊥
  no_stop ixl route upheld goes_on due = choose due.why
    where
      choose : (((route.cancelled ≡ true) ⊎ (AllKnown ixl row.needs → ⊥)) ⊎ (AllClear table ixl row.sections → ⊥)) ⊎ (IsSignalReady ixl row.entry → ⊥) → ⊥
      choose (inl (inl (inl cancelled))) = false≢true (sym goes_on ∙ cancelled)
      choose (inl (inl (inr unknown))) = unknown upheld.0
      choose (inl (inr occupied)) = occupied upheld.1
      choose (inr unready) = unready upheld.2

  upheld_still : (old new : IxlState) → new.known_points ≡ old.known_points → new.detectors ≡ old.detectors → slice_get new.known_signals row.entry ≡ slice_get old.known_signals row.entry → IsUpheld table old row → IsUpheld table new row
  upheld_still old new points detectors signal is = (
    subst (λ (ps : List KnownPointState). AllKnown (record old { known_points = ps }) row.needs) (sym points) is.0,
    subst (λ (ds : List KnownDetectorState). AllClear table (record old { detectors = ds }) row.sections) (sym detectors) is.1,
    (is.2.0, signal ∙ is.2.1, is.2.2),
  )

  own_turn : (part : StepSoFar) → Upheld part → Upheld (withdrawing now table k part)
  own_turn part is =
      let does = law now table k part row is.proceeds.0 (row_there, is.proceeds.1)
      in subst Upheld (sym (does.otherwise (no_stop part.ixl is.proceeds.0 is.upheld is.proceeds.2.1))) is

  -- another route's signal is another
  another_turn : (number : ℕ) (part : StepSoFar) → k ≢ number → Upheld part → (IsUpheld table (withdrawing now table number part).ixl row) × At (withdrawing now table number part).ixl.routes k HasAspect
  unfolding withdrawing
  another_turn number part differ is = route_keeps Q table number _ part (λ other route there here. where_keeps Q (is_stop_due table part.ixl other route) part _ (λ due. elsewhere other route there here (first_true (is_proceeding route.phase) _ due)) kept) kept
    where
      Q : StepSoFar → Type 0
      Q q = IsUpheld table q.ixl row × At q.ixl.routes k HasAspect

      kept : Q part
      kept = (is.upheld, is.proceeds)

      elsewhere : (other : Row) (route : RouteState) → slice_get table.rows number ≡ Some other → slice_get part.ixl.routes number ≡ Some route → is_proceeding route.phase ≡ true → Q (stopped now other (with_route number (come_to Phase.Withdrawn) part))
      elsewhere other route there here goes =
          let leaves = stopped_leaves now other (with_route number (come_to Phase.Withdrawn) part)
          in let apart : row.entry ≢ other.entry = λ same. differ (is.stand.apart k number row other is.proceeds.0 route (record { row_there = row_there; there = is.proceeds.1 }) (record { row_there = there; there = here }) same
          (ap is_set is.proceeds.2.0) (proceeding_set route.phase goes))
          in (
            upheld_still part.ixl (stopped now other (with_route number (come_to Phase.Withdrawn) part)).ixl leaves.points leaves.detectors (leaves.signals row.entry apart) is.upheld,
            subst (λ (routes : List RouteState). At routes k HasAspect) (sym leaves.routes) (at_changed HasAspect k number (come_to Phase.Withdrawn) part.ixl.routes (λ one same at holds. absurd (differ same)) is.proceeds),
          )

  one_turn : (number : ℕ) (part : StepSoFar) → Upheld part → Upheld (withdrawing now table number part)
  one_turn number part is = decide (k == number) refl
    where
      decide : (b : Bool) → (k == number) ≡ b → Upheld (withdrawing now table number part)
      decide true e = subst (λ (m : ℕ). Upheld (withdrawing now table m part)) (is_equal k number e) (own_turn part is)
      decide false e =
          let turn = another_turn number part (differs k number e) is
          in record { stand = withdrawing_held now table AnyCommand (StopsStand table) (stand_keep now table) number part is.stand; upheld = turn.0; proceeds = turn.1 }

  pub still_proceeds : (part : StepSoFar) → StopsStand table part.ixl.routes part.ixl.known_signals → IsUpheld table part.ixl row → At part.ixl.routes k HasAspect → At (ruled now table part).ixl.routes k HasAspect
  still_proceeds part stand upheld proceeds =
      over_keeps (λ (q : StepSoFar). At q.ixl.routes k HasAspect) (proceeding now table) (proceeds_held now table k) (count table) (moved now table part)
      (until_moved now table k HasAspect proceeds_keep part (over_keeps Upheld (withdrawing now table) one_turn (count table) part (record { stand = stand; upheld = upheld; proceeds = proceeds })).proceeds)

  -- routes look at their approaches, and nothing else is changed
  watching_upheld : (number : ℕ) (part : StepSoFar) → IsUpheld table part.ixl row → IsUpheld table (watching table number part).ixl row
  unfolding watching
  watching_upheld number part is = route_keeps Q table number _ part (λ other route there here. where_keeps Q (is_proceeding route.phase || is_withdrawn route.phase) part _ (λ due. is) is) is
    where
      Q : StepSoFar → Type 0
      Q q = IsUpheld table q.ixl row

-- ---- steps

pub step_waits : (site : Site) (table : Table) (k : ℕ) (input : Input) (world : WorldState) → LeavesSetting k input → At world.interlocking.ixl.routes k Waits → At (interlocking_stepped site table input world).interlocking.ixl.routes k GoesOn
unfolding interlocking_stepped stepped
step_waits site table k input world leaves is =
    subst (λ (routes : List RouteState). At routes k GoesOn) (sym (ticks_bring_nothing now input (ruled now table seen)).routes)
    (over_keeps (λ (q : StepSoFar). At q.ixl.routes k GoesOn) (proceeding now table) (goes_on_held now table k) (count table) (moved now table seen) (still.0, still.1, inl still.2))
  where
    now : ℕ
    now = reading_of world.interlocking.clock

    begins : StepSoFar
    begins = begun_with world.interlocking.ixl empty_outbox

    seen : StepSoFar
    seen = over (watching table) (count table) (given now table (key_of site) input (record begins { ixl = all_clocked now begins.ixl }))

    still : At (moved now table seen).ixl.routes k Waits
    still = until_moved now table k Waits waits_keep seen (over_keeps (λ (q : StepSoFar). At q.ixl.routes k Waits) (withdrawing now table) (waits_held now table k) (count table) seen (seen_held now table k Waits waits_keep (key_of site) input begins leaves is))

pub step_proceeds : StopLaw → (site : Site) (table : Table) (k : ℕ) (row : Row) (input : Input) (world : WorldState) → slice_get table.rows k ≡ Some row → StopsStand table world.interlocking.ixl.routes world.interlocking.ixl.known_signals → LeavesSetting k input
    → IsUpheld table (known_in_step site table input world) row → At world.interlocking.ixl.routes k HasAspect → At (interlocking_stepped site table input world).interlocking.ixl.routes k HasAspect
unfolding interlocking_stepped stepped
step_proceeds law site table k row input world there stand leaves upheld is =
    subst (λ (routes : List RouteState). At routes k HasAspect) (sym (ticks_bring_nothing now input (ruled now table seen)).routes)
    (still_proceeds law now table k row there seen
    (watched_held now table AnyCommand (StopsStand table) (stand_keep now table) (key_of site) input begins (λ command e. tt) stand)
    (over_keeps (λ (q : StepSoFar). IsUpheld table q.ixl row) (watching table) (watching_upheld law now table k row there) (count table) _ upheld)
    (seen_held now table k HasAspect proceeds_keep (key_of site) input begins leaves is))
  where
    now : ℕ
    now = reading_of world.interlocking.clock

    begins : StepSoFar
    begins = begun_with world.interlocking.ixl empty_outbox

    seen : StepSoFar
    seen = over (watching table) (count table) (given now table (key_of site) input (record begins { ixl = all_clocked now begins.ixl }))

-- ---- events

-- an event that leaves the route its setting brings no other input
pub leaves_of : (site : Site) (k : ℕ) (one : Event) (input : Input) → KeepsSetting site k one → input_of site one ≡ Some input → LeavesSetting k input
leaves_of site k (Event.Request command) input keeps e = subst (LeavesSetting k) (same_Some (Commands command) input e) keeps
leaves_of site k (Event.Tick node) input keeps e = subst (LeavesSetting k) (input_is (node_at site node.0) Tick input e) tt
leaves_of site k (Event.Deliver node bytes) input keeps e = subst (LeavesSetting k) (input_is (node_at site node.0) (Datagram bytes) input e) tt
leaves_of site k (Event.Time elapsed clocks) input keeps e = absurd (none-some input e)
leaves_of site k (Event.Reach point position) input keeps e = absurd (none-some input e)
leaves_of site k (Event.Occupy section occupancy) input keeps e = absurd (none-some input e)
leaves_of site k (Event.Lose bytes) input keeps e = absurd (none-some input e)
leaves_of site k (Event.Restart node clock first) input keeps e = absurd (none-some input e)

pub not_anew : (site : Site) (k : ℕ) (one : Event) → KeepsSetting site k one → MakesAnew site one → ⊥
not_anew site k (Event.Restart node clock first) keeps anew = keeps anew
not_anew site k (Event.Request command) keeps anew = anew
not_anew site k (Event.Tick node) keeps anew = anew
not_anew site k (Event.Deliver node bytes) keeps anew = anew
not_anew site k (Event.Time elapsed clocks) keeps anew = anew
not_anew site k (Event.Reach point position) keeps anew = anew
not_anew site k (Event.Occupy section occupancy) keeps anew = anew
not_anew site k (Event.Lose bytes) keeps anew = anew

pub waits_on : (site : Site) (table : Table) (one : Event) (world : WorldState) (number : ℕ) → KeepsSetting site number one → At world.interlocking.ixl.routes number Waits → At (happens site table one world).interlocking.ixl.routes number (λ route. Waits route ⊎ HasAspect route)
waits_on site table one world number keeps is = event_then site table (λ ixl. At ixl.routes number GoesOn) world (is.0, is.1, inl is.2) one
    (λ input e. step_waits site table number input world (leaves_of site number one input keeps e) is) (λ begins anew. absurd (not_anew site number one keeps anew))

pub proceeds_on : StopLaw → (site : Site) (table : Table) (one : Event) (world : WorldState) (number : ℕ) (row : Row) → IsReached site table world → slice_get table.rows number ≡ Some row → KeepsSetting site number one
    → UpholdsAspect site table row one world → At world.interlocking.ixl.routes number HasAspect → At (happens site table one world).interlocking.ixl.routes number HasAspect
proceeds_on law site table one world number row reached there keeps upholds is = event_then site table (λ ixl. At ixl.routes number HasAspect) world is one
    (λ input e. step_proceeds law site table number row input world there (standing_then site table world reached) (leaves_of site number one input keeps e) (upholds input e) is) (λ begins anew. absurd (not_anew site number one keeps anew))
