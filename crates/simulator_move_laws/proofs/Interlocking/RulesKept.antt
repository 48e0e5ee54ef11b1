-- Each rule at one route is moves of the machine, or none.
use Rattle.std.proofs.Common.{◌≡◌, ℕ, zero, suc, Bool, true, false, not, if◌then◌else◌, List, [], ◌∷◌, length, refl, sym, ap, subst, ◌∙◌, arith}
use Rattle.std.specs.Prelude.{◌&&◌, ◌==◌, nat_lt, Option, Some, None, slice_get}
use Rattle.std.specs.List.{list_all, list_any}
use Rattle.std.proofs.lemmas.Bool.{true≢false, false≢true, eqb-true}
use Rattle.std.proofs.lemmas.Option.{same_Some}
use Rattle.ixl_spec.specs.sci_telegram.declared.message.Aspect.TheVariants as aspects
use Rattle.ixl_spec.specs.rasta_core.Clock.{settled}
use Rattle.ixl_spec.specs.rasta_core.State.{is_open, is_up}
use Rattle.ixl_spec.specs.ixl_client.Client.{is_available, is_outside, is_ready}
use Rattle.ixl_spec.specs.ixl_client.Made.{ActsOn, MakesAfterReceipt}
use Rattle.ixl_spec.specs.ixl_client.ClientSoFar as client
use Rattle.ixl_spec.specs.ixl_client.Step.{hearing}
use Rattle.ixl_spec.specs.StepSoFar.{StepSoFar, Signal, Point, giving_aspect, giving_move, with_route}
use Rattle.ixl_spec.specs.Operations.{lies_in_closed}
use Rattle.ixl_spec.specs.sci_telegram.declared.message.Side.{Side as TelegramSide}
use Rattle.ixl_spec.specs.Rules.{authorised, come_to, count, ended, ending_authority, freed, freed_by_cancel, freed_by_passage, freeing_by_cancel, freeing_by_passage, freeing_next, frees_cancelled, frees_next, is_move_due, is_over_clear, is_proceed_due, is_proceeding, is_stop_due, is_unmoved, is_waiting, is_withdrawn, moved, moving, moving_one, one_freed, proceeding, repeated, ruled, stopped, withdrawing, withdrawn}
use Rattle.ixl_spec.specs.State.{IxlState, KnownSignalState, RouteState, KnownPointState}
use Rattle.ixl_spec.specs.Step.{Input}
use Rattle.ixl_spec.specs.Table.{Need, Row, Table as Rows, at}
use Rattle.ixl_spec.specs.View.{all_clear, all_known, holds_need, holds_point, is_at_known_stop, is_held_with_authority, is_holding, is_known, is_known_signal_at_stop, is_point_available, is_side, is_signal_ready, was_authorised}
use Rattle.ixl_spec.specs.declared.phase.Phase.{Phase as RoutePhase}
use Rattle.ixl_spec.specs.declared.phase.Phase.TheVariants as phase
use Rattle.simulator_machine.specs.Signal.{GivesStop, HasStopConfirmed, IsAtKnownStop, SignalMove, aspect_given}
use Rattle.simulator_machine.specs.Point.{IsKnownAt, PointMove}
use Rattle.simulator_machine.specs.Route.{Authorised, Ended, Free, has_authority, has_ended}
use Rattle.simulator_machine.specs.Machine.{Machine, with_point, with_signal, with_route as route_set}
use Rattle.simulator_machine.specs.Moves.{AllKnown, AtSignal, Authorises, Ends, Frees, FreesPart, GivesAspect, GivesMove, May, Move, NoneHolds, after}
use Rattle.simulator_machine.specs.Chains.{MovesTo, PointMayChain, SignalMayChain, point_chained, signal_chained}
use Rattle.simulator_move_laws.specs.Calls.{Items, calls_at, items_after}
use Rattle.simulator_move_laws.specs.Facts.{FarEnds}
use Rattle.simulator_move_laws.specs.Link.{is_inside}
use Rattle.simulator_move_laws.specs.Nodes.{KnownSignalFits, KnownPointFits, phase_seen, route_seen}
use Rattle.simulator_move_laws.specs.Rows.{AreHeldAtFirst, is_side_seen, machine_table, row_at, row_or_none}
use Rattle.simulator_move_laws.specs.Sees.{Given, IsClosedSince}
use Rattle.simulator_move_laws.specs.Telegrams.{aspect_seen, side_seen}
use Rattle.simulator_move_laws.proofs.Interlocking.Tests.{by_test, both_true, not_true, true_both}
use Rattle.simulator_move_laws.proofs.Interlocking.Phases.{up_is_open}
use Rattle.simulator_move_laws.proofs.Interlocking.Places.{inside_up, open_inside}
use Rattle.simulator_move_laws.specs.MachineSoFar.{During, KnownSignalDuring, Leads, KnownPointDuring}
use Rattle.simulator_move_laws.proofs.Interlocking.MachineSoFar.{first_known_signal, known_signal_facts}
use Rattle.simulator_move_laws.proofs.Interlocking.KnownPoint.{first_known_point, known_point_facts}
use Rattle.simulator_move_laws.proofs.Interlocking.Nodes.{aspect_given_on, ready_inside}
use Rattle.simulator_move_laws.proofs.Interlocking.KnownPointNodes.{move_given_on}
use Rattle.simulator_move_laws.proofs.Interlocking.Routes.{along_kept, at_kept, over_kept, route_on, route_same}
use Rattle.simulator_move_laws.proofs.Interlocking.Changes.{at_here}
use Rattle.simulator_move_laws.proofs.Interlocking.Guards.{all_shown, any_of_all, at_true, is_ready_where_available, known_signal_at_stop, seen_side_is, some_at, known_point_known, up_where_inside}

proceeding_at : (p : RoutePhase) → is_proceeding p ≡ true → p ≡ phase.Proceeding
proceeding_at phase.Free is = absurd (false≢true is)
proceeding_at phase.Waiting is = absurd (false≢true is)
proceeding_at phase.Proceeding is = refl
proceeding_at phase.Withdrawn is = absurd (false≢true is)
proceeding_at (phase.Ended clock done) is = absurd (false≢true is)

withdrawn_at : (p : RoutePhase) → is_withdrawn p ≡ true → p ≡ phase.Withdrawn
withdrawn_at phase.Free is = absurd (false≢true is)
withdrawn_at phase.Waiting is = absurd (false≢true is)
withdrawn_at phase.Proceeding is = absurd (false≢true is)
withdrawn_at phase.Withdrawn is = refl
withdrawn_at (phase.Ended clock done) is = absurd (false≢true is)

waiting_at : (p : RoutePhase) → is_waiting p ≡ true → p ≡ phase.Waiting
waiting_at phase.Free is = absurd (false≢true is)
waiting_at phase.Waiting is = refl
waiting_at phase.Proceeding is = absurd (false≢true is)
waiting_at phase.Withdrawn is = absurd (false≢true is)
waiting_at (phase.Ended clock done) is = absurd (false≢true is)

pub one_move : (table : _) (machine : Machine) (move : Move) → May table machine move → MovesTo table machine (after table machine move)
one_move table machine move may = record { moves = move ∷ []; may = (may, tt); leads = refl }

module _ (now : ℕ) (input : Input) (rows : Rows) (ixl : IxlState) (given : Given) (machine : Machine) (far : FarEnds now input ixl given machine)
    (chain_signal : (machine : Machine) (place : ℕ) (moves : List SignalMove) → SignalMayChain moves (machine.signals place)
    → MovesTo (machine_table rows) machine (with_signal place (signal_chained moves (machine.signals place)) machine))
    (chain_point : (machine : Machine) (place : ℕ) (moves : List PointMove) → PointMayChain moves (machine.points place)
    → MovesTo (machine_table rows) machine (with_point place (point_chained moves (machine.points place)) machine))
    (onward : (old between new : Machine) → MovesTo (machine_table rows) old between → MovesTo (machine_table rows) between new → MovesTo (machine_table rows) old new)
    (acts : (now : ℕ) (bytes : List ℕ) (part : client.ClientSoFar) → ActsOn now bytes part (hearing now bytes part))
    (receipt : (now : ℕ) (bytes : List ℕ) (part : client.ClientSoFar) → MakesAfterReceipt now bytes part (hearing now bytes part))
    (at_first : AreHeldAtFirst rows) where
  abbrev On : StepSoFar → Type 0
  On part = Leads now input (machine_table rows) ixl given machine part

  abbrev Now : StepSoFar → Machine → Type 0
  Now part new = During now input (machine_table rows) ixl given machine part new

  abbrev KnownSignal : StepSoFar → Machine → ℕ → KnownSignalState → KnownSignalState → Type 0
  KnownSignal part new place known_signal first = KnownSignalDuring now input (machine_table rows) ixl given machine first (given.signals place) (calls_at (Signal place) part.calls) known_signal (machine.signals place) (new.signals place)

  -- a lamp of the interlocking, as the machine sees it
  known_signal_here : (part : StepSoFar) (new : Machine) (place : ℕ) (known_signal : KnownSignalState) → Now part new → slice_get part.ixl.known_signals place ≡ Some known_signal →
      (items : Items) × KnownSignalFits now known_signal items (new.signals place) × (is_open known_signal.client.link.phase ≡ true → is_inside now known_signal.client.link ≡ true)
  known_signal_here part new place known_signal during is = on (first_known_signal now input (machine_table rows) ixl given machine far chain_signal onward (slice_get ixl.known_signals place) (slice_get part.ixl.known_signals place) known_signal (given.signals place)
      (calls_at (Signal place) part.calls) (machine.signals place) (new.signals place) is (during.signals place)) where
        on : (first : KnownSignalState) × (slice_get ixl.known_signals place ≡ Some first) × KnownSignal part new place known_signal first →
            (items : Items) × KnownSignalFits now known_signal items (new.signals place) × (is_open known_signal.client.link.phase ≡ true → is_inside now known_signal.client.link ≡ true)
        on (first, is_first, was) = (
          items_after now (calls_at (Signal place) part.calls) (settled now first.client.link) (given.signals place),
          was.fits,
          λ opened. open_inside now known_signal.client.link (known_signal_facts now input (machine_table rows) ixl given machine far chain_signal onward place first known_signal (calls_at (Signal place) part.calls) (new.signals place)
              is_first was.are was.made was.stays).ends.alive opened,
        )

  -- and a point; in the hold it is closed
  record KnownPointHere (new : Machine) (place : ℕ) (known_point : KnownPointState) : Type 0 where
    items : Items
    fits : KnownPointFits now known_point items (new.points place)
    alive : is_open known_point.client.link.phase ≡ true → is_inside now known_point.client.link ≡ true
    held : is_holding now ixl ≡ true → IsClosedSince ixl.created known_point.client.link

  known_point_here : (part : StepSoFar) (new : Machine) (place : ℕ) (known_point : KnownPointState) → Now part new → slice_get part.ixl.known_points place ≡ Some known_point → KnownPointHere new place known_point
  known_point_here part new place known_point during is = on (first_known_point now input (machine_table rows) ixl given machine far chain_point onward (slice_get ixl.known_points place) (slice_get part.ixl.known_points place) known_point (given.points place)
      (calls_at (Point place) part.calls) (machine.points place) (new.points place) is (during.points place)) where
        on : (first : KnownPointState) × (slice_get ixl.known_points place ≡ Some first)
            × KnownPointDuring now input (machine_table rows) ixl given machine first (given.points place) (calls_at (Point place) part.calls) known_point (machine.points place) (new.points place) → KnownPointHere new place known_point
        on (first, is_first, was) = record {
          items = items_after now (calls_at (Point place) part.calls) (settled now first.client.link) (given.points place);
          fits = was.fits;
          alive = λ opened. open_inside now known_point.client.link (known_point_facts now input (machine_table rows) ixl given machine far chain_point onward place first known_point (calls_at (Point place) part.calls) (new.points place)
              is_first was.are was.made was.stays).ends.alive opened;
          held = was.held;
        }

  -- ---- stop is given

  stop_on : (place : ℕ) (part : StepSoFar) → On part → is_signal_ready part.ixl place ≡ true → On (giving_aspect now place aspects.Stop part)
  stop_on place part (new, during) ready =
      let known_signal = at_true part.ixl.known_signals place (λ (known_signal : KnownSignalState). is_ready known_signal.client.stage) ready
      in let here = known_signal_here part new place known_signal.0 during known_signal.1
      in let up = up_where_inside (is_outside known_signal.0.client.stage) (is_up known_signal.0.client.link.phase) here.1.client.steady.outside (ready_inside known_signal.0.client.stage known_signal.2)
      in let client = here.1.place ∙ inside_up now known_signal.0.client.link (here.2 (up_is_open known_signal.0.client.link.phase up)) up
      in aspect_given_on now input (machine_table rows) ixl given machine far chain_signal onward place aspects.Stop part new known_signal.0 during known_signal.1 known_signal.2
      (one_move (machine_table rows) new (AtSignal place GivesStop) client)

  withdraws : (number : ℕ) (part : StepSoFar) → On part → On (withdrawing now rows number part)
  unfolding withdrawing
  withdraws number part on = at_kept On rows number _ part each on where
    each : (row : Row) (route : RouteState) → slice_get rows.rows number ≡ Some row → slice_get part.ixl.routes number ≡ Some route →
        On (if is_stop_due rows part.ixl row route then stopped now row (with_route number (come_to phase.Withdrawn) part) else part)
    each row route has is = by_test On (is_stop_due rows part.ixl row route) (stopped now row set) part due (λ e. on) where
      set : StepSoFar
      set = with_route number (come_to phase.Withdrawn) part

      due : is_stop_due rows part.ixl row route ≡ true → On (stopped now row set)
      due e = by_test On (is_signal_ready set.ixl row.entry) (giving_aspect now row.entry aspects.Stop set) set (stop_on row.entry set was) (λ e. was) where
        was : On set
        was = route_same now input (machine_table rows) ixl given machine onward number (come_to phase.Withdrawn) part
            (λ other at. sym (ap (λ (r : RouteState). phase_seen r.phase) (same_Some other route (sym at ∙ is)) ∙ ap phase_seen (proceeding_at route.phase (both_true (is_proceeding route.phase) _ e).0))) on

  -- ---- the entry of a route

  row_is : (number : ℕ) (row : Row) → slice_get rows.rows number ≡ Some row → row_at rows number ≡ row
  row_is number row has = ap row_or_none has

  entry_is : (number : ℕ) (row : Row) → slice_get rows.rows number ≡ Some row → (machine_table rows).entry number ≡ row.entry
  unfolding machine_table
  entry_is number row has = ap (λ (r : Row). r.entry) (row_is number row has)

  aspect_is : (number : ℕ) (row : Row) → slice_get rows.rows number ≡ Some row → (machine_table rows).aspect number ≡ aspect_seen row.aspect
  unfolding machine_table
  aspect_is number row has = ap (λ (r : Row). aspect_seen r.aspect) (row_is number row has)

  -- ---- authority ends

  ends_one : (number : ℕ) (part : StepSoFar) → On part → On (ending_authority now rows number part)
  unfolding ending_authority is_at_known_stop
  ends_one number part (new, during) = at_kept On rows number _ part each (new, during) where
    each : (row : Row) (route : RouteState) → slice_get rows.rows number ≡ Some row → slice_get part.ixl.routes number ≡ Some route →
        On (if is_withdrawn route.phase && at part.ixl.known_signals row.entry (is_known_signal_at_stop now) then with_route number (come_to (phase.Ended now 0)) part else part)
    each row route has is = by_test On (is_withdrawn route.phase && at part.ixl.known_signals row.entry (is_known_signal_at_stop now)) (with_route number (come_to (phase.Ended now 0)) part) part due (λ e. (new, during)) where
      due : is_withdrawn route.phase && at part.ixl.known_signals row.entry (is_known_signal_at_stop now) ≡ true → On (with_route number (come_to (phase.Ended now 0)) part)
      due e =
          let both = both_true (is_withdrawn route.phase) (at part.ixl.known_signals row.entry (is_known_signal_at_stop now)) e
          in let known_signal = at_true part.ixl.known_signals row.entry (is_known_signal_at_stop now) both.1
          in let here = known_signal_here part new row.entry known_signal.0 during known_signal.1
          in let stop = (known_signal_at_stop now known_signal.0 here.0 (new.signals row.entry) far.clock here.1 here.2 known_signal.2).0
          in let authority = during.routes number ∙ ap route_seen is ∙ ap phase_seen (withdrawn_at route.phase both.0)
          in (
            route_set number (phase_seen (phase.Ended now 0)) new,
            route_on now input (machine_table rows) ixl given machine onward number (come_to (phase.Ended now 0)) part new route during is
                (one_move (machine_table rows) new (Ends number) (authority, subst (λ s. IsAtKnownStop (new.signals s)) (sym (entry_is number row has)) stop)),
          )

  -- ---- sections are freed

  more_than_none : (n : ℕ) → (suc n == 0) ≡ false
  more_than_none n = cases (suc n == 0) refl where
    cases : (b : Bool) → (suc n == 0) ≡ b → (suc n == 0) ≡ false
    cases true e = absurd (omega (arith, eqb-true (suc n) 0 e))
    cases false e = e

  frees_one : (number : ℕ) (part : StepSoFar) → On part → On (freeing_next rows number part)
  unfolding freeing_next
  frees_one number part (new, during) = at_kept On rows number _ part each (new, during) where
    each : (row : Row) (route : RouteState) → slice_get rows.rows number ≡ Some row → slice_get part.ixl.routes number ≡ Some route →
        On (if frees_next rows part.ixl row route route.phase then with_route number (one_freed row route.phase) part else part)
    each row route has is = by_phase route.phase refl where
      by_phase : (p : RoutePhase) → route.phase ≡ p → On (if frees_next rows part.ixl row route p then with_route number (one_freed row p) part else part)
      by_phase phase.Free at = (new, during)
      by_phase phase.Waiting at = (new, during)
      by_phase phase.Proceeding at = (new, during)
      by_phase phase.Withdrawn at = (new, during)
      by_phase (phase.Ended clock done) at = by_test On (frees_next rows part.ixl row route (phase.Ended clock done)) (with_route number (one_freed row (phase.Ended clock done)) part) part (λ e. due) (λ e. (new, during)) where
        seen : new.routes number ≡ Ended (done == 0)
        seen = during.routes number ∙ ap route_seen is ∙ ap phase_seen at

        whole : MovesTo (machine_table rows) new (route_set number Free new)
        whole = one_move (machine_table rows) new (Frees number) (ap has_authority seen)

        some : MovesTo (machine_table rows) new (route_set number (Ended (suc done == 0)) new)
        some = subst (λ b. MovesTo (machine_table rows) new (route_set number (Ended b) new)) (sym (more_than_none done)) (one_move (machine_table rows) new (FreesPart number) (ap has_ended seen))

        due : On (with_route number (one_freed row (phase.Ended clock done)) part)
        due = (
          route_set number (phase_seen (one_freed row (phase.Ended clock done) route).phase) new,
          route_on now input (machine_table rows) ixl given machine onward number (one_freed row (phase.Ended clock done)) part new route during is
              (by_test (λ (r : RouteState). MovesTo (machine_table rows) new (route_set number (phase_seen r.phase) new)) (suc done == length row.sections) (freed route) (come_to (phase.Ended clock (suc done)) route) (λ e. whole) (λ e. some)),
        )

  repeats : (does : StepSoFar → StepSoFar) → ((part : StepSoFar) → On part → On (does part)) → (times : ℕ) (part : StepSoFar) → On part → On (repeated times does part)
  repeats does each zero part on = on
  repeats does each (suc more) part on = repeats does each more (does part) (each part on)

  passes_by : (number : ℕ) (part : StepSoFar) → On part → On (freeing_by_passage rows number part)
  unfolding freeing_by_passage
  passes_by number part on = at_kept On rows number _ part (λ row route has is. repeats (freeing_next rows number) (frees_one number) (length row.sections) part on) on

  cancels : (number : ℕ) (part : StepSoFar) → On part → On (freeing_by_cancel now rows number part)
  unfolding freeing_by_cancel
  cancels number part (new, during) = at_kept On rows number _ part each (new, during) where
    each : (row : Row) (route : RouteState) → slice_get rows.rows number ≡ Some row → slice_get part.ixl.routes number ≡ Some route →
        On (if route.cancelled && frees_cancelled now rows part.ixl row route route.phase then with_route number freed part else part)
    each row route has is = by_phase route.phase refl where
      frees : has_authority (new.routes number) ≡ false → On (with_route number freed part)
      frees none = (route_set number Free new, route_on now input (machine_table rows) ixl given machine onward number freed part new route during is (one_move (machine_table rows) new (Frees number) none))

      seen : (p : RoutePhase) → route.phase ≡ p → new.routes number ≡ phase_seen p
      seen p at = during.routes number ∙ ap route_seen is ∙ ap phase_seen at

      none_due : (test : Bool) → On (if test && false then with_route number freed part else part)
      none_due true = (new, during)
      none_due false = (new, during)

      by_phase : (p : RoutePhase) → route.phase ≡ p → On (if route.cancelled && frees_cancelled now rows part.ixl row route p then with_route number freed part else part)
      by_phase phase.Free at = none_due route.cancelled
      by_phase phase.Waiting at = by_test On (route.cancelled && frees_cancelled now rows part.ixl row route phase.Waiting) (with_route number freed part) part (λ e. frees (ap has_authority (seen phase.Waiting at))) (λ e. (new, during))
      by_phase phase.Proceeding at = none_due route.cancelled
      by_phase phase.Withdrawn at = none_due route.cancelled
      by_phase (phase.Ended clock done) at = by_test On (route.cancelled && frees_cancelled now rows part.ixl row route (phase.Ended clock done)) (with_route number freed part) part
          (λ e. frees (ap has_authority (seen (phase.Ended clock done) at))) (λ e. (new, during))

  -- ---- points are moved

  -- a route that is held has authority, outside the hold
  authority_held : (route : RouteState) → has_authority (phase_seen route.phase) ≡ true → (was_authorised route.phase ≡ true) × ((need : Need) → nat_lt 0 need.until ≡ true → holds_need route.phase need ≡ true)
  authority_held route is = by_phase route.phase is where
    by_phase : (p : RoutePhase) → has_authority (phase_seen p) ≡ true → (was_authorised p ≡ true) × ((need : Need) → nat_lt 0 need.until ≡ true → holds_need p need ≡ true)
    by_phase phase.Free is = absurd (false≢true is)
    by_phase phase.Waiting is = absurd (false≢true is)
    by_phase phase.Proceeding is = (refl, λ need until. until)
    by_phase phase.Withdrawn is = (refl, λ need until. until)
    by_phase (phase.Ended clock done) is = absurd (false≢true is)

  none_holds : (part : StepSoFar) (new : Machine) (point : ℕ) → Now part new → is_holding now ixl ≡ false → is_held_with_authority rows part.ixl point ≡ false → NoneHolds (machine_table rows) new point
  unfolding machine_table
  none_holds part new point during resumed unheld number side held required = by_route (slice_get part.ixl.routes number) refl (slice_get rows.rows number) refl where
    authority : has_authority (new.routes number) ≡ true
    authority = subst (λ b. (if b then new.frozen number else has_authority (new.routes number)) ≡ true) (during.holding ∙ resumed) held

    by_route : (route : Option RouteState) → slice_get part.ixl.routes number ≡ route → (row : Option Row) → slice_get rows.rows number ≡ row → ⊥
    by_route None is row has = false≢true (sym (ap has_authority (during.routes number ∙ ap route_seen is)) ∙ authority)
    by_route (Some route) is None has =
        false≢true (sym (ap (λ (r : Row). list_any (λ need. need.point == point && is_side_seen (side_seen need.side) side) r.needs) (ap row_or_none has)) ∙ required)
    by_route (Some route) is (Some row) has =
        let held = authority_held route (sym (ap has_authority (during.routes number ∙ ap route_seen is)) ∙ authority)
        in let needed = any_of_all (λ (need : Need). need.point == point && is_side_seen (side_seen need.side) side) (λ (need : Need). nat_lt 0 need.until) row.needs
        (sym (ap (λ (r : Row). list_any (λ need. need.point == point && is_side_seen (side_seen need.side) side) r.needs) (ap row_or_none has)) ∙ required) (at_first number row has)
        in true≢false (sym (some_at (λ row route. was_authorised route.phase && holds_point row route.phase point) 0 rows.rows part.ixl.routes number row route has is
        (true_both (was_authorised route.phase) (holds_point row route.phase point) held.0 (held_one row.needs route held.1 (at_first number row has)
        (sym (ap (λ (r : Row). list_any (λ need. need.point == point && is_side_seen (side_seen need.side) side) r.needs) (ap row_or_none has)) ∙ required)))) ∙ unheld)
      where
        held_one : (needs : List Need) (route : RouteState) → ((need : Need) → nat_lt 0 need.until ≡ true → holds_need route.phase need ≡ true) → list_all (λ need. nat_lt 0 need.until) needs ≡ true →
            list_any (λ need. need.point == point && is_side_seen (side_seen need.side) side) needs ≡ true → list_any (λ need. need.point == point && holds_need route.phase need) needs ≡ true
        held_one needs route holds all some = all_shown (λ (need : Need). need.point == point && is_side_seen (side_seen need.side) side) (λ (need : Need). nat_lt 0 need.until) (λ (need : Need). need.point == point && holds_need route.phase need) needs
            (λ need one until. true_both (need.point == point) (holds_need route.phase need) (both_true (need.point == point) (is_side_seen (side_seen need.side) side) one).0 (holds need until)) all some

  -- a point that is available, and that no route with authority holds, is given a move
  pub moves_point : (place : ℕ) (side : TelegramSide) (part : StepSoFar) → is_point_available part.ixl place ≡ true → is_held_with_authority rows part.ixl place ≡ false → On part → On (giving_move now place side part)
  moves_point place side part available unheld (new, during) =
      let known_point = at_true part.ixl.known_points place (λ (known_point : KnownPointState). is_available known_point.client.stage) available
      in let here = known_point_here part new place known_point.0 during known_point.1
      in let completed = is_ready_where_available known_point.0.client.stage known_point.2
      in let up = up_where_inside (is_outside known_point.0.client.stage) (is_up known_point.0.client.link.phase) here.fits.client.steady.outside (ap is_outside completed)
      in let opened = up_is_open known_point.0.client.link.phase up
      in let client = here.fits.place ∙ inside_up now known_point.0.client.link (here.alive opened) up
      in move_given_on now input (machine_table rows) ixl given machine far chain_point onward acts receipt place side part new known_point.0 during known_point.1 completed
      (one_move (machine_table rows) new (GivesMove place) (client, none_holds part new place during (resumed known_point.0 here.held opened) unheld))
    where
      resumed : (known_point : KnownPointState) → (is_holding now ixl ≡ true → IsClosedSince ixl.created known_point.client.link) → is_open known_point.client.link.phase ≡ true → is_holding now ixl ≡ false
      resumed known_point held opened = cases (is_holding now ixl) refl where
        cases : (b : Bool) → is_holding now ixl ≡ b → is_holding now ixl ≡ false
        cases true h = absurd (true≢false (sym opened ∙ ap is_open (held h).closed))
        cases false h = h

  moves_one : (number : ℕ) (need : Need) (part : StepSoFar) → On part → On (moving_one now rows number need part)
  unfolding moving_one
  moves_one number need part (new, during) = at_kept On rows number _ part each (new, during) where
    each : (row : Row) (route : RouteState) → slice_get rows.rows number ≡ Some row → slice_get part.ixl.routes number ≡ Some route →
        On (if is_move_due rows part.ixl number route need then giving_move now need.point need.side part else part)
    each row route has is = by_test On (is_move_due rows part.ixl number route need) (giving_move now need.point need.side part) part due (λ e. (new, during)) where
      due : is_move_due rows part.ixl number route need ≡ true → On (giving_move now need.point need.side part)
      due e =
          let seven = both_true (is_waiting route.phase && not route.cancelled && is_point_available part.ixl need.point && not (is_known part.ixl need.point need.side) && is_over_clear rows part.ixl need.point && not (is_held_with_authority rows part.ixl need.point) && is_unmoved part.ixl need.point number) (not (lies_in_closed rows part.ixl need.point)) e
          in let six = both_true (is_waiting route.phase && not route.cancelled && is_point_available part.ixl need.point && not (is_known part.ixl need.point need.side) && is_over_clear rows part.ixl need.point && not (is_held_with_authority rows part.ixl need.point)) (is_unmoved part.ixl need.point number) seven.0
          in let five = both_true (is_waiting route.phase && not route.cancelled && is_point_available part.ixl need.point && not (is_known part.ixl need.point need.side) && is_over_clear rows part.ixl need.point) (not (is_held_with_authority rows part.ixl need.point)) six.0
          in let four = both_true (is_waiting route.phase && not route.cancelled && is_point_available part.ixl need.point && not (is_known part.ixl need.point need.side)) (is_over_clear rows part.ixl need.point) five.0
          in let three = both_true (is_waiting route.phase && not route.cancelled && is_point_available part.ixl need.point) (not (is_known part.ixl need.point need.side)) four.0
          in let two = both_true (is_waiting route.phase && not route.cancelled) (is_point_available part.ixl need.point) three.0
          in moves_point need.point need.side part two.1 (not_true (is_held_with_authority rows part.ixl need.point) five.1) (new, during)

  moves_all : (number : ℕ) (part : StepSoFar) → On part → On (moving now rows number part)
  unfolding moving
  moves_all number part on = at_kept On rows number _ part (λ row route has is. along_kept On (moving_one now rows number) (moves_one number) row.needs part on) on

  -- ---- authority is given

  all_points : (number : ℕ) (row : Row) (part : StepSoFar) (new : Machine) → slice_get rows.rows number ≡ Some row → Now part new → all_known part.ixl row.needs ≡ true → AllKnown (machine_table rows) new number
  unfolding machine_table is_known
  all_points number row part new has during known point side required =
      let need = any_of_all (λ (need : Need). need.point == point && is_side_seen (side_seen need.side) side) (λ (need : Need). is_known part.ixl need.point need.side) row.needs
      (sym (ap (λ (r : Row). list_any (λ need. need.point == point && is_side_seen (side_seen need.side) side) r.needs) (ap row_or_none has)) ∙ required) known
      in let both = both_true (need.0.point == point) (is_side_seen (side_seen need.0.side) side) need.1
      in let known_point = at_true part.ixl.known_points need.0.point (λ (known_point : KnownPointState). is_available known_point.client.stage && is_side need.0.side known_point.side) need.2
      in let here = known_point_here part new need.0.point known_point.0 during known_point.1
      in subst (λ s. IsKnownAt s (new.points point)) (seen_side_is (side_seen need.0.side) side both.1)
      (subst (λ p. IsKnownAt (side_seen need.0.side) (new.points p)) (eqb-true need.0.point point both.0) (known_point_known now known_point.0 here.items (new.points need.0.point) need.0.side here.fits here.alive known_point.2))

  proceeds : (number : ℕ) (part : StepSoFar) → On part → On (proceeding now rows number part)
  unfolding proceeding is_at_known_stop
  proceeds number part (new, during) = at_kept On rows number _ part each (new, during) where
    each : (row : Row) (route : RouteState) → slice_get rows.rows number ≡ Some row → slice_get part.ixl.routes number ≡ Some route →
        On (if is_proceed_due now rows part.ixl row route then giving_aspect now row.entry row.aspect (with_route number (authorised rows part.ixl row) part) else part)
    each row route has is = by_test On (is_proceed_due now rows part.ixl row route) (giving_aspect now row.entry row.aspect (with_route number (authorised rows part.ixl row) part)) part due (λ e. (new, during)) where
      due : is_proceed_due now rows part.ixl row route ≡ true → On (giving_aspect now row.entry row.aspect (with_route number (authorised rows part.ixl row) part))
      due e =
          let five = both_true (is_waiting route.phase && not route.cancelled && all_known part.ixl row.needs && all_clear rows part.ixl row.sections && is_signal_ready part.ixl row.entry) (at part.ixl.known_signals row.entry (is_known_signal_at_stop now)) e
          in let four = both_true (is_waiting route.phase && not route.cancelled && all_known part.ixl row.needs && all_clear rows part.ixl row.sections) (is_signal_ready part.ixl row.entry) five.0
          in let three = both_true (is_waiting route.phase && not route.cancelled && all_known part.ixl row.needs) (all_clear rows part.ixl row.sections) four.0
          in let two = both_true (is_waiting route.phase && not route.cancelled) (all_known part.ixl row.needs) three.0
          in let one = both_true (is_waiting route.phase) (not route.cancelled) two.0
          in let ready = at_true part.ixl.known_signals row.entry (λ (known_signal : KnownSignalState). is_ready known_signal.client.stage) four.1
          in let stopped = at_true part.ixl.known_signals row.entry (is_known_signal_at_stop now) five.1
          in let waits = during.routes number ∙ ap route_seen is ∙ ap phase_seen (waiting_at route.phase one.0)
          in let between = route_set number Authorised new
          in let granted = route_on now input (machine_table rows) ixl given machine onward number (authorised rows part.ixl row) part new route during is
          (one_move (machine_table rows) new (Authorises number) (waits, all_points number row part new has during two.1))
          in let here = known_signal_here part new row.entry ready.0 during ready.1
          in let up = up_where_inside (is_outside ready.0.client.stage) (is_up ready.0.client.link.phase) here.1.client.steady.outside (ready_inside ready.0.client.stage ready.2)
          in let same = same_Some stopped.0 ready.0 (sym stopped.1 ∙ ready.1)
          in let confirmed = (known_signal_at_stop now ready.0 here.0 (new.signals row.entry) far.clock here.1 here.2 (ap (is_known_signal_at_stop now) (sym same) ∙ stopped.2)).1 up
          in aspect_given_on now input (machine_table rows) ixl given machine far chain_signal onward row.entry row.aspect (with_route number (authorised rows part.ixl row) part) between ready.0 granted ready.1 ready.2
          (subst (λ s. MovesTo (machine_table rows) between (with_signal s (aspect_given (aspect_seen row.aspect) (between.signals s)) between)) (entry_is number row has)
          (subst (λ a. MovesTo (machine_table rows) between (with_signal ((machine_table rows).entry number) (aspect_given a (between.signals ((machine_table rows).entry number))) between)) (aspect_is number row has)
          (one_move (machine_table rows) between (GivesAspect number) (at_here number Authorised new.routes, subst (λ s. HasStopConfirmed (new.signals s)) (sym (entry_is number row has)) confirmed))))

  -- ---- the six rules

  pub rules_kept : (part : StepSoFar) → On part → On (ruled now rows part)
  rules_kept part on =
      over_kept On (proceeding now rows) proceeds (count rows) (moved now rows part)
      (over_kept On (moving now rows) moves_all (count rows) (freed_by_cancel now rows part)
      (over_kept On (freeing_by_cancel now rows) cancels (count rows) (freed_by_passage now rows part)
      (over_kept On (freeing_by_passage rows) passes_by (count rows) (ended now rows part)
      (over_kept On (ending_authority now rows) ends_one (count rows) (withdrawn now rows part)
      (over_kept On (withdrawing now rows) withdraws (count rows) part on)))))
