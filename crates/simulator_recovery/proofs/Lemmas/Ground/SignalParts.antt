-- What is kept of the routes and of the signals' aspects by each part of a step of an interlocking.
use Rattle.simulator_recovery.proofs.Words.Basics.{◌≡◌, ℕ, suc, Bool, true, false, ◌&&◌, List, length, map, Option, Some, None, slice_get, if◌then◌else◌, refl, sym, ap, subst, ◌∙◌, ◌⊎◌, inl, inr, false≢true, same_Some, ◌||◌, ◌==◌, not}
use Rattle.simulator_recovery.proofs.Words.Links.{OutboxState, reading, Key}
use Rattle.simulator_recovery.proofs.Words.Controllers.{Aspect, Side}
use Rattle.simulator_recovery.proofs.Words.Interlockings.{ClientState, is_ready, begun, commanding, hearing, ticking, commanded_by, obeyed, refusal, set_anew, authorised, come_to, count, ended, ending_authority, freed, freed_by_cancel, freed_by_passage, freeing_by_cancel, freeing_by_passage, freeing_next, frees_cancelled, frees_next, is_move_due, is_proceed_due, is_proceeding, is_stop_due, is_waiting, is_withdrawn, moved, moving, moving_one, one_freed, proceeding, ruled, withdrawing, withdrawn, IxlState, KnownSignalState, RouteState, changed, Commands, Datagram, Input, Tick, addressed, all_clocked, clocked_known_signal, detector_hearing, detector_ticking, given, known_point_hearing, known_point_ticking, known_signal_hearing, known_signal_ticking, looking, looking_by, looks, node_hearing, occupied_heard, route_looks, stepped, ticked, watching, Detector, Node, Point, Signal, StepSoFar, at_route, detector_after, giving_aspect, giving_move, known_signal_after, noted, over, with_detector, with_one, with_route, Need, Row, Table, at, passes, all_clear, all_known, is_at_known_stop, is_set, is_signal_ready, place_in, was_authorised, Command, Refusal, Phase, released_at, moved_at_once}
use Rattle.simulator_recovery.proofs.Words.Stations.{RouteId}
use Rattle.simulator_spec.specs.ixl_client.declared.command.Command.{Command as ClientCommand}
use Rattle.simulator_recovery.proofs.Lemmas.Ground.DueShapes.{along_keeps, either_keeps, moving_keeps, one_keeps, over_keeps, passage_keeps, route_holds, there_keeps, ticked_keeps, where_keeps}
use Rattle.simulator_recovery.proofs.Lemmas.Ground.IxlSoFar.{test_of}
use Rattle.simulator_recovery.proofs.Lemmas.Ground.DueTests.{first_true, last_true}
use Rattle.simulator_recovery.proofs.Lemmas.Ground.MovedAtOnce.{moved_keeps}

-- ---- what a part of a step does

-- a client goes on by a datagram or a tick
pub data GoesOn (now : ℕ) (old new : ClientState) : Type 0 where
  hears : (bytes : List ℕ) (outbox : OutboxState) → new ≡ (hearing now bytes (begun old outbox)).client → GoesOn now old new
  ticks : (outbox : OutboxState) → new ≡ (ticking now (begun old outbox)).client → GoesOn now old new

-- it was ready, and is given an aspect
pub record IsGiven (now : ℕ) (aspect : Aspect) (old new : ClientState) : Type 0 where
  pub ready : is_ready old.stage ≡ true
  pub outbox : OutboxState
  pub is : new ≡ (commanding now (ClientCommand.Indicate aspect) (begun old outbox)).client

-- authority has ended, or the route is free
abbrev pub IsOver : Phase → Type 0
IsOver Phase.Free = Unit {0}
IsOver (Phase.Ended clock done) = Unit {0}
IsOver _ = ⊥

-- a route that is set after the end of its authority was withdrawn, or its authority had ended before, at the same clock
abbrev pub EndsFrom : (old new : Phase) → Type 0
EndsFrom Phase.Withdrawn new = Unit {0}
EndsFrom (Phase.Ended clock done) (Phase.Ended later more) = later ≡ clock
EndsFrom _ _ = ⊥

-- a route keeps its phase, and stays cancelled where it was; or it was set and its authority is over, after its aspect, and where it is set
-- still it comes from there, and stays cancelled
abbrev pub IsQuiet : (old new : RouteState) → Type 0
IsQuiet old new = ((new.phase ≡ old.phase) × (old.cancelled ≡ true → new.cancelled ≡ true))
    ⊎ (IsOver new.phase × (is_proceeding old.phase ≡ false) × (is_set old.phase ≡ true) × (is_set new.phase ≡ true → EndsFrom old.phase new.phase × (old.cancelled ≡ true → new.cancelled ≡ true)))

-- a route of the table, as it is now
pub record AtRoute (table : Table) (number : ℕ) (row : Row) (route : RouteState) (routes : List RouteState) : Type 0 where
  pub row_there : slice_get table.rows number ≡ Some row
  pub there : slice_get routes number ≡ Some route

abbrev pub new_signal : Aspect → ℕ → ClientState → KnownSignalState → KnownSignalState
new_signal aspect number client known = known_signal_after (Some aspect) number known.indicated client

-- What the rules after the first, and ticks, keep of the routes and the signals.
pub record RulesKeep (now : ℕ) (table : Table) (P : List RouteState → List KnownSignalState → Type 0) : Type 0 where
  pub quiet : (number : ℕ) (change : RouteState → RouteState) (routes : List RouteState) (signals : List KnownSignalState) → ((route : RouteState) → slice_get routes number ≡ Some route → IsQuiet route (change route))
      → P routes signals → P (changed change number routes) signals
  pub proceeds : (number : ℕ) (row : Row) (route : RouteState) (known : KnownSignalState) (items : ℕ) (client : ClientState) (change : RouteState → RouteState) (routes : List RouteState) (signals : List KnownSignalState)
      → AtRoute table number row route routes → is_waiting route.phase ≡ true → route.cancelled ≡ false → ((one : RouteState) → (change one).phase ≡ Phase.Proceeding) → slice_get signals row.entry ≡ Some known → IsGiven now row.aspect known.client client
      → P routes signals → P (changed change number routes) (changed (λ old. new_signal row.aspect items client known) row.entry signals)
  pub ticks : (place : ℕ) (known : KnownSignalState) (outbox : OutboxState) (routes : List RouteState) (signals : List KnownSignalState) → slice_get signals place ≡ Some known → P routes signals
      → P routes (changed (λ old. known_signal_after known.aspect known.number known.indicated (ticking now (begun known.client outbox)).client) place signals)

-- What each part of a step keeps of the routes and the signals.
pub record PartsKeep (now : ℕ) (table : Table) (Obeys : Command → Type 0) (P : List RouteState → List KnownSignalState → Type 0) : Type 0 where
  pub rules : RulesKeep now table P
  pub clock : (routes : List RouteState) (signals : List KnownSignalState) → P routes signals → P routes (map (clocked_known_signal now) signals)
  pub client : (place : ℕ) (known : KnownSignalState) (client : ClientState) (indicated : Option Aspect) (routes : List RouteState) (signals : List KnownSignalState) → slice_get signals place ≡ Some known
      → GoesOn now known.client client → P routes signals → P routes (changed (λ old. known_signal_after known.aspect known.number indicated client) place signals)
  pub withdraws : (number : ℕ) (row : Row) (route : RouteState) (known : KnownSignalState) (items : ℕ) (client : ClientState) (routes : List RouteState) (signals : List KnownSignalState) → AtRoute table number row route routes
      → is_proceeding route.phase ≡ true → slice_get signals row.entry ≡ Some known → IsGiven now Aspect.Stop known.client client → P routes signals
      → P (changed (come_to Phase.Withdrawn) number routes) (changed (λ old. new_signal Aspect.Stop items client known) row.entry signals)
  -- where the signal isn't ready no stop is given
  pub falls : (number : ℕ) (row : Row) (route : RouteState) (routes : List RouteState) (signals : List KnownSignalState) → AtRoute table number row route routes
      → is_proceeding route.phase ≡ true → at signals row.entry (λ known. is_ready known.client.stage) ≡ false → P routes signals → P (changed (come_to Phase.Withdrawn) number routes) signals
  pub sets : (route : RouteId) (ixl : IxlState) → Obeys (Command.Request route) → refusal now table (Command.Request route) ixl ≡ None → P ixl.routes ixl.known_signals
      → P (changed set_anew route.0 ixl.routes) ixl.known_signals

-- ---- tests

pub none_passes : {A : Type 0} (list : List A) (place : ℕ) (test : A → Bool) → at list place test ≡ true → slice_get list place ≡ None → ⊥
unfolding at
none_passes list place test holds e = false≢true (ap (passes test) (sym e) ∙ holds)

pub is_ready_there : (now : ℕ) (table : Table) (ixl : IxlState) (row : Row) (route : RouteState) → is_proceed_due now table ixl row route ≡ true → is_signal_ready ixl row.entry ≡ true
is_ready_there now table ixl row route due = in_middle (is_waiting route.phase) (not route.cancelled) (all_known ixl row.needs) (all_clear table ixl row.sections) (is_signal_ready ixl row.entry) (is_at_known_stop now ixl row.entry) due
  where
    in_middle : (a b c d e f : Bool) → (a && b && c && d && e && f) ≡ true → e ≡ true
    in_middle true true true true true f h = refl
    in_middle true true true true false f h = absurd (false≢true h)
    in_middle true true true false e f h = absurd (false≢true h)
    in_middle true true false d e f h = absurd (false≢true h)
    in_middle true false c d e f h = absurd (false≢true h)
    in_middle false b c d e f h = absurd (false≢true h)

pub not_cancelled_there : (now : ℕ) (table : Table) (ixl : IxlState) (row : Row) (route : RouteState) → is_proceed_due now table ixl row route ≡ true → route.cancelled ≡ false
not_cancelled_there now table ixl row route due = second (is_waiting route.phase) route.cancelled (all_known ixl row.needs) (all_clear table ixl row.sections) (is_signal_ready ixl row.entry) (is_at_known_stop now ixl row.entry) due
  where
    second : (a b c d e f : Bool) → (a && not b && c && d && e && f) ≡ true → b ≡ false
    second true false c d e f h = refl
    second true true c d e f h = absurd (false≢true h)
    second false b c d e f h = absurd (false≢true h)

pub is_waiting_there : (now : ℕ) (table : Table) (ixl : IxlState) (row : Row) (route : RouteState) → is_proceed_due now table ixl row route ≡ true → is_waiting route.phase ≡ true
is_waiting_there now table ixl row route due = first (is_waiting route.phase) (not route.cancelled) (all_known ixl row.needs) (all_clear table ixl row.sections) (is_signal_ready ixl row.entry) (is_at_known_stop now ixl row.entry) due
  where
    first : (a b c d e f : Bool) → (a && b && c && d && e && f) ≡ true → a ≡ true
    first true b c d e f h = refl
    first false b c d e f h = absurd (false≢true h)

pub looks_quietly : (section : ℕ) (occupied : Bool) (row : Row) (route : RouteState) → IsQuiet route (route_looks section occupied row route)
looks_quietly section occupied row route = by_place (place_in section row.sections) refl
  where
    by_place : (found : Option ℕ) → place_in section row.sections ≡ found → IsQuiet route (route_looks section occupied row route)
    by_place None is = rw is (inl (refl, λ cancelled. cancelled))
    by_place (Some place) is = rw is (inl (refl, λ cancelled. cancelled))

pub freed_quietly : (row : Row) (how_far : Phase) (route : RouteState) → route.phase ≡ how_far → IsQuiet route (one_freed row how_far route)
freed_quietly row (Phase.Ended clock done) route is = choose (suc done == length row.sections)
  where
    choose : (b : Bool) → IsQuiet route (if b then freed route else come_to (Phase.Ended clock (suc done)) route)
    choose true = inr (tt, ap is_proceeding is, ap is_set is, λ set. absurd (false≢true set))
    choose false = inr (tt, ap is_proceeding is, ap is_set is, λ set. (subst (λ (p : Phase). EndsFrom p (Phase.Ended clock (suc done))) (sym is) refl, λ cancelled. cancelled))
freed_quietly row Phase.Free route is = inl (refl, λ cancelled. cancelled)
freed_quietly row Phase.Waiting route is = inl (refl, λ cancelled. cancelled)
freed_quietly row Phase.Proceeding route is = inl (refl, λ cancelled. cancelled)
freed_quietly row Phase.Withdrawn route is = inl (refl, λ cancelled. cancelled)

pub was_withdrawn : (now : ℕ) (route : RouteState) → is_withdrawn route.phase ≡ true → IsQuiet route (come_to (Phase.Ended now 0) route)
was_withdrawn now route due = by_phase route.phase due refl
  where
    by_phase : (p : Phase) → is_withdrawn p ≡ true → route.phase ≡ p → IsQuiet route (come_to (Phase.Ended now 0) route)
    by_phase Phase.Free e is = absurd (false≢true e)
    by_phase Phase.Waiting e is = absurd (false≢true e)
    by_phase Phase.Proceeding e is = absurd (false≢true e)
    by_phase Phase.Withdrawn e is = inr (tt, ap is_proceeding is, ap is_set is, λ set. (subst (λ (p : Phase). EndsFrom p (Phase.Ended now 0)) (sym is) tt, λ cancelled. cancelled))
    by_phase (Phase.Ended clock done) e is = absurd (false≢true e)

pub was_freed : (now : ℕ) (table : Table) (ixl : IxlState) (row : Row) (route : RouteState) → frees_cancelled now table ixl row route route.phase ≡ true → IsQuiet route (freed route)
was_freed now table ixl row route due = by_phase route.phase due refl
  where
    by_phase : (p : Phase) → frees_cancelled now table ixl row route p ≡ true → route.phase ≡ p → IsQuiet route (freed route)
    by_phase Phase.Free e is = absurd (false≢true e)
    by_phase Phase.Waiting e is = inr (tt, ap is_proceeding is, ap is_set is, λ set. absurd (false≢true set))
    by_phase Phase.Proceeding e is = absurd (false≢true e)
    by_phase Phase.Withdrawn e is = absurd (false≢true e)
    by_phase (Phase.Ended clock done) e is = inr (tt, ap is_proceeding is, ap is_set is, λ set. absurd (false≢true set))

-- what is so is kept by what is done at a route of the table
pub at_keeps : (P : StepSoFar → Type 0) (table : Table) (number : ℕ) (does : Row → RouteState → StepSoFar → StepSoFar)
    → ((row : Row) (route : RouteState) (part : StepSoFar) → AtRoute table number row route part.ixl.routes → P part → P (does row route part)) → (part : StepSoFar) → P part
    → P (at_route table number does part)
at_keeps P table number does each = route_holds P table number does (λ row route part there here. each row route part (record { row_there = there; there = here }))

-- ---- the rules and the looks that change a route quietly

module _ (now : ℕ) (table : Table) (P : StepSoFar → Type 0)
    (quietly : (number : ℕ) (change : RouteState → RouteState) (part : StepSoFar) → ((route : RouteState) → slice_get part.ixl.routes number ≡ Some route → IsQuiet route (change route))
    → P part → P (with_route number change part)) where
  pub ending_keeps : (number : ℕ) (part : StepSoFar) → P part → P (ending_authority now table number part)
  unfolding ending_authority
  ending_keeps number = at_keeps P table number _ (λ row route part at all. where_keeps P (is_withdrawn route.phase && is_at_known_stop now part.ixl row.entry) part _
      (λ due. quietly number _ part (λ one e. was_withdrawn now one (ap (λ (r : RouteState). is_withdrawn r.phase) (same_Some one route (sym e ∙ at.there))
      ∙ first_true (is_withdrawn route.phase) (is_at_known_stop now part.ixl row.entry) due)) all) all)

  pub next_keeps : (number : ℕ) (part : StepSoFar) → P part → P (freeing_next table number part)
  unfolding freeing_next
  next_keeps number = at_keeps P table number _ (λ row route part at all. where_keeps P (frees_next table part.ixl row route route.phase) part _
      (λ due. quietly number (one_freed row route.phase) part (λ one e. freed_quietly row route.phase one (ap (λ (r : RouteState). r.phase) (same_Some one route (sym e ∙ at.there)))) all) all)

  pub cancel_keeps : (number : ℕ) (part : StepSoFar) → P part → P (freeing_by_cancel now table number part)
  unfolding freeing_by_cancel
  cancel_keeps number = at_keeps P table number _ (λ row route part at all. where_keeps P (route.cancelled && frees_cancelled now table part.ixl row route route.phase) part _
      (λ due. quietly number freed part (λ one e. was_freed now table part.ixl row one
      (ap (λ (r : RouteState). frees_cancelled now table part.ixl row r r.phase) (same_Some one route (sym e ∙ at.there)) ∙ last_true route.cancelled (frees_cancelled now table part.ixl row route route.phase) due)) all) all)

  pub watching_keeps : (number : ℕ) (part : StepSoFar) → P part → P (watching table number part)
  unfolding watching
  watching_keeps number = at_keeps P table number _ (λ row route part at all. where_keeps P (is_proceeding route.phase || is_withdrawn route.phase) part _
      (λ due. quietly number _ part (λ one e. inl (refl, λ cancelled. cancelled)) all) all)

  pub looking_keeps : (look : ℕ × Bool) (part : StepSoFar) → P part → P (looking table look part)
  unfolding looking_by
  looking_keeps look = over_keeps P (looking_by look.0 look.1 table) (λ number. at_keeps P table number _ (λ row route part at all. where_keeps P (was_authorised route.phase) part _ (λ due.
      quietly number (route_looks look.0 look.1 row) part (λ one e. looks_quietly look.0 look.1 row one) all) all)) (count table)

-- ---- a step

module _ (now : ℕ) (table : Table) (P : List RouteState → List KnownSignalState → Type 0) (keep : RulesKeep now table P) where
  abbrev pub Held : StepSoFar → Type 0
  Held part = P part.ixl.routes part.ixl.known_signals

  pub over_held : (does : ℕ → StepSoFar → StepSoFar) → ((number : ℕ) (part : StepSoFar) → Held part → Held (does number part)) → (n : ℕ) (part : StepSoFar) → Held part → Held (over does n part)
  over_held = over_keeps Held

  quietly : (number : ℕ) (change : RouteState → RouteState) (part : StepSoFar) → ((route : RouteState) → slice_get part.ixl.routes number ≡ Some route → IsQuiet route (change route)) → Held part → Held (with_route number change part)
  quietly number change part quiet all = keep.quiet number change part.ixl.routes part.ixl.known_signals quiet all

  -- a signal that is ready is given an aspect
  pub aspect_held : (signal : ℕ) (aspect : Aspect) (part : StepSoFar) → is_signal_ready part.ixl signal ≡ true
      → ((known : KnownSignalState) (items : ℕ) (client : ClientState) → slice_get part.ixl.known_signals signal ≡ Some known → IsGiven now aspect known.client client
      → P part.ixl.routes (changed (λ old. new_signal aspect items client known) signal part.ixl.known_signals)) → Held (giving_aspect now signal aspect part)
  unfolding giving_aspect
  aspect_held signal aspect part ready each = there_keeps Held (slice_get part.ixl.known_signals signal) _ part
      (none_passes part.ixl.known_signals signal (λ known. is_ready known.client.stage) ready)
      (λ known e. each known _ _ e (record { ready = test_of part.ixl.known_signals signal (λ known. is_ready known.client.stage) known e ready; outbox = part.outbox; is = refl }))

  -- a move changes no route and no signal
  move_held : (point : ℕ) (side : Side) (part : StepSoFar) → Held part → Held (giving_move now point side part)
  unfolding giving_move
  move_held point side part all = one_keeps Held (slice_get part.ixl.known_points point) _ part (λ known e. all) all

  -- ---- the rules after the first

  pub ending_held : (number : ℕ) (part : StepSoFar) → Held part → Held (ending_authority now table number part)
  ending_held = ending_keeps now table Held quietly

  pub next_held : (number : ℕ) (part : StepSoFar) → Held part → Held (freeing_next table number part)
  next_held = next_keeps now table Held quietly

  pub passage_held : (number : ℕ) (part : StepSoFar) → Held part → Held (freeing_by_passage table number part)
  passage_held = passage_keeps Held now table next_held

  pub cancel_held : (number : ℕ) (part : StepSoFar) → Held part → Held (freeing_by_cancel now table number part)
  cancel_held = cancel_keeps now table Held quietly

  pub moving_one_held : (number : ℕ) (need : Need) (part : StepSoFar) → Held part → Held (moving_one now table number need part)
  unfolding moving_one
  moving_one_held number need = at_keeps Held table number _ (λ row route part at all. where_keeps Held (is_move_due table part.ixl number route need) part _
      (λ due. move_held need.point need.side part all) all)

  pub moving_held : (number : ℕ) (part : StepSoFar) → Held part → Held (moving now table number part)
  moving_held = moving_keeps Held now table moving_one_held

  pub proceeding_held : (number : ℕ) (part : StepSoFar) → Held part → Held (proceeding now table number part)
  unfolding proceeding
  proceeding_held number = at_keeps Held table number _ (λ row route part at all. where_keeps Held (is_proceed_due now table part.ixl row route) part _ (λ due.
      aspect_held row.entry row.aspect (with_route number (authorised table part.ixl row) part) (is_ready_there now table part.ixl row route due) (λ known items client e so.
      keep.proceeds number row route known items client (authorised table part.ixl row) part.ixl.routes part.ixl.known_signals at (is_waiting_there now table part.ixl row route due) (not_cancelled_there now table part.ixl row route due) (λ one. refl) e so all)) all)

  -- the rules after the second, up to the last
  pub until_moved : (part : StepSoFar) → Held (ended now table part) → Held (moved now table part)
  until_moved part all =
      over_held (moving now table) moving_held (count table) (freed_by_cancel now table part)
      (over_held (freeing_by_cancel now table) cancel_held (count table) (freed_by_passage now table part)
      (over_held (freeing_by_passage table) passage_held (count table) (ended now table part) all))

  -- and all of them
  pub behind_ending : (part : StepSoFar) → Held (ended now table part) → Held (ruled now table part)
  behind_ending part all = over_held (proceeding now table) proceeding_held (count table) (moved now table part) (until_moved part all)

  -- ---- ticks

  signal_ticked : (place : ℕ) (part : StepSoFar) → Held part → Held (known_signal_ticking now place part)
  unfolding known_signal_ticking
  signal_ticked place part all = one_keeps Held (slice_get part.ixl.known_signals place) _ part (λ known e. keep.ticks place known part.outbox part.ixl.routes part.ixl.known_signals e all) all

  point_ticked : (place : ℕ) (part : StepSoFar) → Held part → Held (known_point_ticking now place part)
  unfolding known_point_ticking
  point_ticked place part all = one_keeps Held (slice_get part.ixl.known_points place) _ part (λ known e. all) all

  detector_ticked : (place : ℕ) (part : StepSoFar) → Held part → Held (detector_ticking now place part)
  unfolding detector_ticking
  detector_ticked place part all = one_keeps Held (slice_get part.ixl.detectors place) _ part (λ known e. all) all

  pub ticked_held : (input : Input) (part : StepSoFar) → Held part → Held (ticked now input part)
  ticked_held = ticked_keeps Held now signal_ticked point_ticked detector_ticked

-- ---- and all parts of it

module _ (now : ℕ) (table : Table) (Obeys : Command → Type 0) (P : List RouteState → List KnownSignalState → Type 0) (keep : PartsKeep now table Obeys P) where
  abbrev pub Holds : StepSoFar → Type 0
  Holds part = P part.ixl.routes part.ixl.known_signals

  pub withdrawing_held : (number : ℕ) (part : StepSoFar) → Holds part → Holds (withdrawing now table number part)
  unfolding withdrawing
  withdrawing_held number = at_keeps Holds table number _ (λ row route part at all. where_keeps Holds (is_stop_due table part.ixl row route) part _ (λ due.
      let given : is_proceeding route.phase ≡ true = first_true (is_proceeding route.phase) _ due
      in either_keeps Holds (is_signal_ready part.ixl row.entry) _ _
      (λ ready. aspect_held now table P keep.rules row.entry Aspect.Stop (with_route number (come_to Phase.Withdrawn) part) ready (λ known items client e so. keep.withdraws number row route known items client part.ixl.routes part.ixl.known_signals at given e so all))
      (λ not_ready. keep.falls number row route part.ixl.routes part.ixl.known_signals at given not_ready all)) all)

  pub watching_held : (number : ℕ) (part : StepSoFar) → Holds part → Holds (watching table number part)
  watching_held = watching_keeps now table Holds (quietly now table P keep.rules)

  -- after the first rule, and after the second
  pub behind_withdrawal : (part : StepSoFar) → Holds (withdrawn now table part) → Holds (ruled now table part)
  behind_withdrawal part all = behind_ending now table P keep.rules part (over_held now table P keep.rules (ending_authority now table) (ending_held now table P keep.rules) (count table) (withdrawn now table part) all)

  pub both_rules : (part : StepSoFar) → Holds part → Holds (ended now table part)
  both_rules part all = over_held now table P keep.rules (ending_authority now table) (ending_held now table P keep.rules) (count table) (withdrawn now table part)
      (over_held now table P keep.rules (withdrawing now table) withdrawing_held (count table) part all)

  -- ---- what is heard

  looking_held : (look : ℕ × Bool) (part : StepSoFar) → Holds part → Holds (looking table look part)
  looking_held = looking_keeps now table Holds (quietly now table P keep.rules)

  hearing_held : (bytes : List ℕ) (node : Node) (part : StepSoFar) → Holds part → Holds (node_hearing now table bytes node part)
  unfolding node_hearing known_signal_hearing known_point_hearing detector_hearing
  hearing_held bytes (Signal place) part all = one_keeps Holds (slice_get part.ixl.known_signals place) _ part (λ known e.
      keep.client place known _ _ part.ixl.routes part.ixl.known_signals e (hears bytes part.outbox refl) all) all
  hearing_held bytes (Point place) part all = one_keeps Holds (slice_get part.ixl.known_points place) _ part (λ known e. all) all
  hearing_held bytes (Detector place) part all = one_keeps Holds (slice_get table.detectors place) _ part (λ sections f. one_keeps Holds (slice_get part.ixl.detectors place) _ part (λ known e.
      let done = hearing now bytes (begun known.client part.outbox)
      in along_keeps Holds (looking table) looking_held (looks sections known done.heard done.client)
      (with_detector place (detector_after (occupied_heard done.heard known.occupied) done.client) (noted (Detector place) done part)) all) all) all

  -- ---- the input

  obeyed_held : (command : Command) (part : StepSoFar) → Obeys command → refusal now table command part.ixl ≡ None → Holds part → Holds (record part { ixl = obeyed now command part.ixl })
  unfolding obeyed
  obeyed_held (Command.Request route) part obeys none all = keep.sets route part.ixl obeys none all
  obeyed_held (Command.Cancel route) part obeys none all = keep.rules.quiet route.0 (λ old. record old { cancelled = true }) part.ixl.routes part.ixl.known_signals (λ one e. inl (refl, λ cancelled. refl)) all
  obeyed_held Command.Resume part obeys none all = all
  obeyed_held (Command.Release route) part obeys none all = keep.rules.quiet route.0 (released_at now) part.ixl.routes part.ixl.known_signals (λ one e. inl (refl, λ cancelled. cancelled)) all
  obeyed_held (Command.Move point side) part obeys none all = all
  obeyed_held (Command.Close named) part obeys none all = all
  obeyed_held (Command.Open named) part obeys none all = all

  pub commanded_held : (cause : Option Refusal) (command : Command) (part : StepSoFar) → refusal now table command part.ixl ≡ cause → Obeys command → Holds part → Holds (record part { ixl = commanded_by now cause command part.ixl })
  commanded_held None command part is obeys all = obeyed_held command part obeys is all
  commanded_held (Some cause) command part is obeys all = all

  -- a command, and its move
  pub given_command : (command : Command) (part : StepSoFar) → Obeys command → Holds part
      → Holds (moved_at_once now (refusal now table command part.ixl) command (record part { ixl = commanded_by now (refusal now table command part.ixl) command part.ixl }))
  given_command command part obeys all =
      moved_keeps Holds now table (λ point side q available. move_held now table P keep.rules point side q) (refusal now table command part.ixl) command part refl
      (commanded_held (refusal now table command part.ixl) command part refl obeys all)

  heard_at : (bytes : List ℕ) (found : Option Node) (part : StepSoFar) → Holds part → Holds (with_one found (node_hearing now table bytes) part)
  heard_at bytes None part all = all
  heard_at bytes (Some node) part all = hearing_held bytes node part all

  given_held : (key : Key) (input : Input) (part : StepSoFar) → ((command : Command) → input ≡ Commands command → Obeys command) → Holds part → Holds (given now table key input part)
  unfolding given
  given_held key Tick part obeys all = all
  given_held key (Datagram bytes) part obeys all = heard_at bytes (addressed (reading key bytes) part.ixl) part all
  given_held key (Commands command) part obeys all = given_command command part (obeys command refl) all

  pub clocked_held : (part : StepSoFar) → Holds part → Holds (record part { ixl = all_clocked now part.ixl })
  unfolding all_clocked
  clocked_held part all = keep.clock part.ixl.routes part.ixl.known_signals all

  -- before the rules
  pub watched_held : (key : Key) (input : Input) (part : StepSoFar) → ((command : Command) → input ≡ Commands command → Obeys command) → Holds part → Holds (over (watching table) (count table) (given now table key input (record part { ixl = all_clocked now part.ixl })))
  watched_held key input part obeys all = over_held now table P keep.rules (watching table) watching_held (count table) _ (given_held key input (record part { ixl = all_clocked now part.ixl }) obeys (clocked_held part all))

  pub step_held : (key : Key) (input : Input) (part : StepSoFar) → ((command : Command) → input ≡ Commands command → Obeys command) → Holds part → Holds (stepped now table key input part)
  unfolding stepped
  step_held key input part obeys all = ticked_held now table P keep.rules input _ (behind_ending now table P keep.rules _ (both_rules _ (watched_held key input part obeys all)))
