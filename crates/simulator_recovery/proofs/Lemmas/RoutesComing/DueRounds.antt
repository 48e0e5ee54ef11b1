-- How a set route goes on over good rounds, with events between them.
use Rattle.simulator_recovery.proofs.Words.Basics.{◌≡◌, ◌<◌, ℕ, ◌==◌, ◌&&◌, Bool, true, false, List, slice_get, refl, sym, ap, subst, ◌∙◌, ◌||◌, not, false≢true, Some, Contains, Contains-get_or, ◌⊎◌, inl, inr, [], ◌∷◌, map}
use Rattle.simulator_recovery.proofs.Words.Links.{reading_of, Each}
use Rattle.simulator_recovery.proofs.Words.Controllers.{Aspect, Side}
use Rattle.simulator_recovery.proofs.Words.Interlockings.{lies_in_closed, is_available, is_outside, is_ready, AllClear, IsSignalReady, authorised, come_to, count, ended, ending_authority, freed_by_cancel, freed_by_passage, freeing_by_cancel, freeing_by_passage, freeing_next, frees_cancelled, frees_next, is_move_due, is_over_clear, is_proceed_due, is_proceeding, is_stop_due, is_unmoved, is_waiting, is_withdrawn, moved, moving, moving_one, proceeding, ruled, stopped, withdrawing, withdrawn, IxlState, KnownDetectorState, KnownPointState, KnownSignalState, RouteState, Input, stepped, ticked, watching, StepSoFar, giving_aspect, giving_move, over, with_route, Need, Row, Table, is_at_known_stop, is_held_with_authority, is_known, is_point_available, is_signal_ready, Phase, IsTableOf, At, Known, SitedTable, all_clocked, is_set, freed_sections}
use Rattle.simulator_recovery.proofs.Words.Stations.{Site, interlocking_stepped, WorldState, Event, happens, IsReached, RoundEvent, Flowing, all_did, did, due, reaches, round, Played, after}
use Rattle.simulator_recovery.proofs.Words.Recovery.{IsClearFor, IsInside, known_in_step, HasPointsUp, IsUpheld, KeepsSetting, HasAspect, MoveLaw, StopLaw, EachFinds, FindsUpheld, RoundsFind, Waits, all_tried, good_rounds, LawsBelow, RequestLaw, ProceedLaw}
use Rattle.simulator_recovery.proofs.Lemmas.Ground.MovedAtOnce.{held_unmoved}
use Rattle.simulator_recovery.proofs.Lemmas.RoutesComing.HeldNeeds.{heard_in, seen_in}
use Rattle.simulator_recovery.proofs.Lemmas.Ground.DueShapes.{along_keeps, over_keeps, passage_keeps, route_keeps, where_keeps}
use Rattle.simulator_recovery.proofs.Lemmas.Ground.DueTests.{at_shown}
use Rattle.simulator_recovery.proofs.Lemmas.RoutesComing.DueKnown.{BringsNothing, all_clear_before, available_inside, ready_before, ticks_bring_nothing, known_in, NotMoved}
use Rattle.simulator_recovery.proofs.Lemmas.RoutesComing.NothingDueMoves.{MoveLeaves, move_leaves}
use Rattle.simulator_recovery.proofs.Lemmas.RoutesComing.NothingDueProceeds.{AspectLeaves, aspect_leaves}
use Rattle.simulator_recovery.proofs.Lemmas.Ground.SignalParts.{is_ready_there}
use Rattle.simulator_recovery.proofs.Lemmas.Lamps.StopsGiven.{differs, is_equal}
use Rattle.simulator_recovery.proofs.Lemmas.Lamps.ConfirmedStops.{standing_then}
use Rattle.simulator_recovery.proofs.Lemmas.RoutesComing.DueCourse.{leaves_of, not_anew, step_proceeds, waits_on}
use Rattle.simulator_recovery.proofs.Lemmas.Ground.IxlAlways.{event_then}
use Rattle.simulator_recovery.proofs.Lemmas.RoutesComing.NothingDueStops.{all_rest, holds_each}
use Rattle.simulator_recovery.proofs.Lemmas.RoutesComing.DueStops.{known_proceeds}
use Rattle.simulator_recovery.proofs.Lemmas.Rounds.Rounds.{AllAre, behind_time_are, IsAt, tried_keeps, tried_reached}

-- ---- the rules of a step bring up no link: what is in a connection after a step was so after its input

-- ---- what is there

ready_shown : (ixl : IxlState) (signal : ℕ) → is_signal_ready ixl signal ≡ true → IsSignalReady ixl signal
ready_shown ixl signal e = at_shown ixl.known_signals signal (λ known. is_ready known.client.stage) e

inside_shown : (table : Table) (ixl : IxlState) (number : ℕ) (route : RouteState) (need : Need) → is_move_due table ixl number route need ≡ true → IsInside ixl need.point
inside_shown table ixl number route need due =
    let found = at_shown ixl.known_points need.point (λ known. is_available known.client.stage) (third (is_waiting route.phase) (not route.cancelled) (is_point_available ixl need.point) (not (is_known ixl need.point need.side))
    (is_over_clear table ixl need.point) (not (is_held_with_authority table ixl need.point)) (is_unmoved ixl need.point number) (not (lies_in_closed table ixl need.point)) due)
    in (found.0, found.1, available_inside found.0.client.stage found.2)
  where
    third : (a b c d e f g h : Bool) → (a && b && c && d && e && f && g && h) ≡ true → c ≡ true
    third true true true d e f g h is = refl
    third true true false d e f g h is = absurd (false≢true is)
    third true false c d e f g h is = absurd (false≢true is)
    third false b c d e f g h is = absurd (false≢true is)

-- ---- what the rules keep

-- what is ready or in a connection was so before
record Learnt (old : IxlState) (part : StepSoFar) : Type 0 where
  points : (point : ℕ) → IsInside part.ixl point → IsInside old point
  signals : (signal : ℕ) → IsSignalReady part.ixl signal → IsSignalReady old signal
  detectors : part.ixl.detectors ≡ old.detectors

module _ (now : ℕ) (table : Table) (old : IxlState) where
  abbrev Held : StepSoFar → Type 0
  Held = Learnt old

  changed_held : (number : ℕ) (change : RouteState → RouteState) (part : StepSoFar) → Held part → Held (with_route number change part)
  changed_held number change part is = record { points = is.points; signals = is.signals; detectors = is.detectors }

  aspect_held : (signal : ℕ) (aspect : Aspect) (part : StepSoFar) → IsSignalReady part.ixl signal → Held part → Held (giving_aspect now signal aspect part)
  aspect_held signal aspect part ready is = record {
    points = λ point inside. is.points point (inside.0, ap (λ (ps : List KnownPointState). slice_get ps point) (sym leaves.points) ∙ inside.1, inside.2);
    signals = λ other there. decide other there (other == signal) refl;
    detectors = leaves.detectors ∙ is.detectors;
  }
    where
      leaves : AspectLeaves signal part.ixl (giving_aspect now signal aspect part).ixl
      leaves = aspect_leaves now signal aspect part

      decide : (other : ℕ) → IsSignalReady (giving_aspect now signal aspect part).ixl other → (b : Bool) → (other == signal) ≡ b → IsSignalReady old other
      decide other there true e = is.signals other (subst (IsSignalReady part.ixl) (sym (is_equal other signal e)) ready)
      decide other there false e = is.signals other (there.0, sym (leaves.signals other (differs other signal e)) ∙ there.1, there.2)

  move_held : (point : ℕ) (side : Side) (part : StepSoFar) → IsInside part.ixl point → Held part → Held (giving_move now point side part)
  move_held point side part inside is = record {
    points = λ other there. decide other there (other == point) refl;
    signals = λ signal ready. is.signals signal (ready.0, ap (λ (ss : List KnownSignalState). slice_get ss signal) (sym leaves.signals) ∙ ready.1, ready.2);
    detectors = leaves.detectors ∙ is.detectors;
  }
    where
      leaves : MoveLeaves point part.ixl (giving_move now point side part).ixl
      leaves = move_leaves now point side part

      decide : (other : ℕ) → IsInside (giving_move now point side part).ixl other → (b : Bool) → (other == point) ≡ b → IsInside old other
      decide other there true e = is.points other (subst (IsInside part.ixl) (sym (is_equal other point e)) inside)
      decide other there false e = is.points other (there.0, sym (leaves.points other (differs other point e)) ∙ there.1, there.2)

  stopped_held : (row : Row) (part : StepSoFar) → Held part → Held (stopped now row part)
  stopped_held row part is = where_keeps Held (is_signal_ready part.ixl row.entry) part (giving_aspect now row.entry Aspect.Stop part) (λ ready. aspect_held row.entry Aspect.Stop part (ready_shown part.ixl row.entry ready) is) is

  withdrawing_held : (number : ℕ) (part : StepSoFar) → Held part → Held (withdrawing now table number part)
  unfolding withdrawing
  withdrawing_held number part is = route_keeps Held table number _ part (λ row one there here. where_keeps Held (is_stop_due table part.ixl row one) part _
      (λ due. stopped_held row (with_route number (come_to Phase.Withdrawn) part) (changed_held number (come_to Phase.Withdrawn) part is)) is) is

  ending_held : (number : ℕ) (part : StepSoFar) → Held part → Held (ending_authority now table number part)
  unfolding ending_authority
  ending_held number part is = route_keeps Held table number _ part (λ row one there here. where_keeps Held (is_withdrawn one.phase && is_at_known_stop now part.ixl row.entry) part _ (λ due. changed_held number _ part is) is) is

  next_held : (number : ℕ) (part : StepSoFar) → Held part → Held (freeing_next table number part)
  unfolding freeing_next
  next_held number part is = route_keeps Held table number _ part (λ row one there here. where_keeps Held (frees_next table part.ixl row one one.phase) part _ (λ due. changed_held number _ part is) is) is

  passage_held : (number : ℕ) (part : StepSoFar) → Held part → Held (freeing_by_passage table number part)
  passage_held = passage_keeps Held now table next_held

  cancel_held : (number : ℕ) (part : StepSoFar) → Held part → Held (freeing_by_cancel now table number part)
  unfolding freeing_by_cancel
  cancel_held number part is = route_keeps Held table number _ part (λ row one there here. where_keeps Held (one.cancelled && frees_cancelled now table part.ixl row one one.phase) part _ (λ due. changed_held number _ part is) is) is

  moving_held : (number : ℕ) (part : StepSoFar) → Held part → Held (moving now table number part)
  unfolding moving moving_one
  moving_held number part is = route_keeps Held table number _ part (λ row one there here. along_keeps Held (moving_one now table number)
      (λ need q held. route_keeps Held table number _ q (λ other route other_there route_here. where_keeps Held (is_move_due table q.ixl number route need) q _
      (λ due. move_held need.point need.side q (inside_shown table q.ixl number route need due) held) held) held) row.needs part is) is

  proceeding_held : (number : ℕ) (part : StepSoFar) → Held part → Held (proceeding now table number part)
  unfolding proceeding
  proceeding_held number part is = route_keeps Held table number _ part (λ row one there here. where_keeps Held (is_proceed_due now table part.ixl row one) part _
      (λ due. aspect_held row.entry row.aspect (with_route number (authorised table part.ixl row) part) (ready_shown part.ixl row.entry (is_ready_there now table part.ixl row one due)) (changed_held number (authorised table part.ixl row) part is)) is) is

  watching_held : (number : ℕ) (part : StepSoFar) → Held part → Held (watching table number part)
  unfolding watching
  watching_held number part is = route_keeps Held table number _ part (λ row one there here. where_keeps Held (is_proceeding one.phase || is_withdrawn one.phase) part _ (λ due. changed_held number _ part is) is) is

  rules_held : (part : StepSoFar) → Held part → Held (ruled now table (over (watching table) (count table) part))
  rules_held part is =
      over_keeps Held (proceeding now table) proceeding_held (count table) (moved now table seen)
      (over_keeps Held (moving now table) moving_held (count table) (freed_by_cancel now table seen)
      (over_keeps Held (freeing_by_cancel now table) cancel_held (count table) (freed_by_passage now table seen)
      (over_keeps Held (freeing_by_passage table) passage_held (count table) (ended now table seen)
      (over_keeps Held (ending_authority now table) ending_held (count table) (withdrawn now table seen)
      (over_keeps Held (withdrawing now table) withdrawing_held (count table) seen
      (over_keeps Held (watching table) watching_held (count table) part is))))))
    where
      seen : StepSoFar
      seen = over (watching table) (count table) part

-- ---- a step

pub clear_in_step : (site : Site) (table : Table) (input : Input) (world : WorldState) (row : Row) → IsClearFor table (interlocking_stepped site table input world).interlocking.ixl row → IsClearFor table (known_in_step site table input world) row
unfolding interlocking_stepped stepped
clear_in_step site table input world row clear = record {
  points = λ need within. let inside = clear.points need within in let was = brings.points need.point inside.0 inside.1
      in learnt.points need.point (was.was, was.there, ap is_outside (sym (was.stands inside.2).stage) ∙ inside.2);
  sections = subst (λ (ds : List KnownDetectorState). AllClear table (record rules.ixl { detectors = ds }) row.sections) learnt.detectors (all_clear_before table rules.ixl _ brings row.sections clear.sections);
  signal = learnt.signals row.entry (ready_before table rules.ixl _ brings row.entry clear.signal);
}
  where
    now : ℕ
    now = reading_of world.interlocking.clock

    rules : StepSoFar
    rules = ruled now table (seen_in site table input world)

    brings : BringsNothing rules.ixl (ticked now input rules).ixl
    brings = ticks_bring_nothing now input rules

    learnt : Learnt (heard_in site table input world).ixl rules
    learnt = rules_held now table (heard_in site table input world).ixl (heard_in site table input world) (record { points = λ point inside. inside; signals = λ signal ready. ready; detectors = refl })

-- ---- a route that proceeds goes on proceeding while its sections are clear and its links last

pub clear_goes_on : StopLaw → MoveLaw → (site : Site) (table : Table) (one : Event) (world : WorldState) (number : ℕ) (row : Row) → IsTableOf site table → IsReached site table world → slice_get table.rows number ≡ Some row → KeepsSetting site number one
    → HasPointsUp world row → IsClearFor table (happens site table one world).interlocking.ixl row → At world.interlocking.ixl.routes number HasAspect → At (happens site table one world).interlocking.ixl.routes number HasAspect
unfolding all_clocked
clear_goes_on stop move site table one world number row is_table reached there keeps up clear is = event_then site table (λ ixl. IsClearFor table ixl row → At ixl.routes number HasAspect) world (λ still. is) one
    (λ input e clear_behind. step_proceeds stop site table number row input world there (standing_then site table world reached) (leaves_of site number one input keeps e) (upheld input (clear_in_step site table input world row clear_behind)) is)
    (λ begins anew still. absurd (not_anew site number one keeps anew)) clear
  where
    known : (need : Need) → Contains row.needs need → Known world.interlocking.ixl need.point need.side
    known need within = (all_rest stop move site table (holds_each site table is_table) world reached number row is.0 (there, is.1) is.2.0).points need within (up.ready need within)

    -- its points are held, so no command moves them
    unmoved : (input : Input) (need : Need) → Contains row.needs need → NotMoved table input world need.point
    unmoved input need within moved to same here none =
        held_unmoved (reading_of world.interlocking.clock) table (all_clocked (reading_of world.interlocking.clock) world.interlocking.ixl) number row is.0 need there is.1 within (ap is_set is.2.0)
        (subst (λ (n : ℕ). n < need.until) (sym (ap freed_sections is.2.0)) (holds_each site table is_table number row need there within)) moved to here none

    upheld : (input : Input) → IsClearFor table (known_in_step site table input world) row → IsUpheld table (known_in_step site table input world) row
    upheld input clear_in = (
      (λ place other within. let need = Contains-get_or row.needs place other within in known_in site table input world _ _ (unmoved input _ need) reached (known _ need) (up.up _ need) (clear_in.points _ need)),
      clear_in.sections,
      clear_in.signal,
    )

-- ---- how a set route goes on over good rounds, with events between them

-- ---- the events of a round cancel no route, and make nothing anew

pub due_keep : (site : Site) (number : ℕ) (flowing : Flowing) → AllAre (KeepsSetting site number) (due flowing)
due_keep site number flowing = (tt, behind_time_are (KeepsSetting site number) (λ node bytes. tt) (λ node. tt) (λ point position. tt) flowing)

-- ---- one event, and many

module _ (stop : StopLaw) (move : MoveLaw) (reaches : LawsBelow) (sited : SitedTable) (is_table : IsTableOf sited.site sited.table) (number : ℕ) (row : Row) (there : slice_get sited.table.rows number ≡ Some row) where
  abbrev GoesOn : WorldState → Type 0
  GoesOn world = At world.interlocking.ixl.routes number (λ one. Waits one ⊎ HasAspect one)

  event_goes_on : (one : Event) (world : WorldState) → IsReached sited.site sited.table world → KeepsSetting sited.site number one → FindsUpheld sited.site sited.table number row one world → GoesOn world → GoesOn (happens sited.site sited.table one world)
  event_goes_on one world reached keeps upheld (route, at, inl waits) = waits_on sited.site sited.table one world number keeps (route, at, waits)
  event_goes_on one world reached keeps upheld (route, at, inr proceeds) =
      let finds = upheld (route, at, proceeds)
      in let still = clear_goes_on stop move sited.site sited.table one world number row is_table reached there keeps finds.0 finds.1 (route, at, proceeds)
      in (still.0, still.1, inr still.2)

  -- a station of this data that was reached, in which the route goes on
  record Stands (world : Played) : Type 0 where
    is : IsAt sited world
    goes_on : GoesOn world.run

  tried_stands : (one : Event) (world : Played) → KeepsSetting sited.site number one → EachFinds (FindsUpheld sited.site sited.table number row) (one ∷ []) world → Stands world → Stands (after world one)
  tried_stands one world keeps finds stands = record {
    is = tried_reached reaches sited world one stands.is;
    goes_on = tried_keeps (λ (w : Played). GoesOn w.run) world one stands.goes_on (λ none.
        subst (λ (s : SitedTable). GoesOn (happens s.site s.table one world.run)) (sym stands.is.same) (event_goes_on one world.run stands.is.reached keeps (finds.0 none) stands.goes_on));
  }

  all_did_stand : (list : List RoundEvent) (flowing : Flowing) → AllAre (KeepsSetting sited.site number) list → EachFinds (FindsUpheld sited.site sited.table number row)
      (map (λ (one : RoundEvent). one.event) list) flowing.state → Stands flowing.state
      → Stands (all_did list flowing).state
  unfolding all_did
  all_did_stand [] flowing keep finds stands = stands
  all_did_stand (first ∷ others) flowing keep finds stands = all_did_stand others (did first flowing) keep.1 finds.1 (tried_stands first.event flowing.state keep.0 (finds.0, tt) stands)

  all_tried_stand : (between : List Event) (flowing : Flowing) → Each (KeepsSetting sited.site number) between → EachFinds (FindsUpheld sited.site sited.table number row) between flowing.state → Stands flowing.state
      → Stands (all_tried between flowing).state
  all_tried_stand [] flowing keep finds stands = stands
  all_tried_stand (first ∷ others) flowing keep finds stands = all_tried_stand others (record flowing { state = after flowing.state first }) keep.1 finds.1 (tried_stands first flowing.state keep.0 (finds.0, tt) stands)

  rounds_stand : (rounds : List (List Event)) (flowing : Flowing) → Each (Each (KeepsSetting sited.site number)) rounds → RoundsFind (FindsUpheld sited.site sited.table number row) rounds flowing → Stands flowing.state → Stands (good_rounds rounds flowing).state
  rounds_stand [] flowing keep finds stands = stands
  rounds_stand (between ∷ later) flowing keep finds stands = rounds_stand later (all_tried between (round flowing)) keep.1 finds.2
      (all_tried_stand between (round flowing) keep.0 finds.1 (round_stands finds.0))
    where
      round_stands : EachFinds (FindsUpheld sited.site sited.table number row) (map (λ (one : RoundEvent). one.event) (due flowing)) flowing.state → Stands (round flowing).state
      round_stands found = all_did_stand (due flowing) flowing (due_keep sited.site number flowing) found stands

pub goes_on_over_rounds : StopLaw → MoveLaw → LawsBelow → (rounds : List (List Event)) (flowing : Flowing) (number : ℕ) (row : Row) → IsTableOf flowing.state.sited.site flowing.state.sited.table
    → IsReached flowing.state.sited.site flowing.state.sited.table flowing.state.run → slice_get flowing.state.sited.table.rows number ≡ Some row → Each (Each (KeepsSetting flowing.state.sited.site number)) rounds
    → RoundsFind (FindsUpheld flowing.state.sited.site flowing.state.sited.table number row) rounds flowing → At flowing.state.run.interlocking.ixl.routes number (λ one. Waits one ⊎ HasAspect one)
    → At (good_rounds rounds flowing).state.run.interlocking.ixl.routes number (λ one. Waits one ⊎ HasAspect one)
goes_on_over_rounds stop move reaches rounds flowing number row is_table reached there keep finds is =
    (rounds_stand stop move reaches flowing.state.sited is_table number row there rounds flowing keep finds (record { is = record { same = refl; reached = reached }; goes_on = is })).goes_on

-- where all is known after them it doesn't wait
pub comes_behind_rounds : StopLaw → MoveLaw → ProceedLaw → RequestLaw → LawsBelow → (rounds : List (List Event)) (flowing : Flowing) (number : ℕ) (row : Row) → IsTableOf flowing.state.sited.site flowing.state.sited.table
    → IsReached flowing.state.sited.site flowing.state.sited.table flowing.state.run → slice_get flowing.state.sited.table.rows number ≡ Some row → Each (Each (KeepsSetting flowing.state.sited.site number)) rounds
    → RoundsFind (FindsUpheld flowing.state.sited.site flowing.state.sited.table number row) rounds flowing → At flowing.state.run.interlocking.ixl.routes number (λ one. Waits one ⊎ HasAspect one)
    → IsUpheld flowing.state.sited.table (good_rounds rounds flowing).state.run.interlocking.ixl row → At (good_rounds rounds flowing).state.run.interlocking.ixl.routes number HasAspect
comes_behind_rounds stop move proceed request reaches rounds flowing number row is_table reached there keep finds is known = choose behind.goes_on
  where
    behind : Stands stop move reaches flowing.state.sited is_table number row there (good_rounds rounds flowing).state
    behind = rounds_stand stop move reaches flowing.state.sited is_table number row there rounds flowing keep finds (record { is = record { same = refl; reached = reached }; goes_on = is })

    choose : At (good_rounds rounds flowing).state.run.interlocking.ixl.routes number (λ one. Waits one ⊎ HasAspect one) → At (good_rounds rounds flowing).state.run.interlocking.ixl.routes number HasAspect
    choose (route, at, inr proceeds) = (route, at, proceeds)
    choose (route, at, inl waits) = absurd (known_proceeds proceed request flowing.state.sited.site flowing.state.sited.table (good_rounds rounds flowing).state.run number row route behind.is.reached (there, at) waits known.0 known.1 known.2)
