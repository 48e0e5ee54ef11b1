-- What a step keeps of all routes: each goes on as it may, or is set anew.
use Rattle.simulator_recovery.proofs.Words.Basics.{◌≡◌, ◌≢◌, ◌⊎◌, inl, inr, ℕ, suc, ◌≤◌, ◌==◌, ◌&&◌, Bool, true, false, if◌then◌else◌, List, length, Option, Some, None, slice_get, refl, sym, ap, subst, ◌∙◌, arith, ◌||◌, nat_cmp_total, unsigned_tied, contains, contains-insert, insert, Contains, false≢true, same_Some}
use Rattle.simulator_recovery.proofs.Words.Links.{reading_of, reading, Key}
use Rattle.simulator_recovery.proofs.Words.Controllers.{Side}
use Rattle.simulator_recovery.proofs.Words.Interlockings.{begun, hearing, commanded_by, obeyed, refusal, released_at, set_anew, Admissible, HoldsPoint, authorised, come_to, count, ended, ending_authority, freed, freed_by_cancel, freed_by_passage, freeing_by_cancel, freeing_by_passage, freeing_next, frees_cancelled, frees_next, is_move_due, is_proceed_due, is_proceeding, is_stop_due, is_waiting, is_withdrawn, moved, moving, moving_one, one_freed, proceeding, ruled, withdrawing, withdrawn, IxlState, RouteState, changed, Commands, Datagram, Input, Tick, addressed, all_clocked, detector_hearing, given, known_point_hearing, known_signal_hearing, looking, looking_by, looks, node_hearing, occupied_heard, route_looks, stepped, watching, Detector, Node, Point, Signal, StepSoFar, begun_with, detector_after, empty_outbox, noted, over, with_detector, with_one, with_route, Need, Row, Table, freed_sections, is_at_known_stop, is_set, place_in, was_authorised, Command, Refusal, Phase, giving_move}
use Rattle.simulator_recovery.proofs.Words.Stations.{Places, Site, RouteId, Beginning, new_ixl, new_route_of, interlocking_stepped, key_of, WorldState, IsReached}
use Rattle.simulator_recovery.proofs.Words.Recovery.{RequestLaw}
use Rattle.simulator_recovery.proofs.Lemmas.RoutesComing.DueCourse.{stopped_leaves}
use Rattle.simulator_recovery.proofs.Lemmas.Ground.DueShapes.{along_keeps, one_keeps, over_keeps, passage_keeps, route_keeps, where_keeps}
use Rattle.simulator_recovery.proofs.Lemmas.RoutesComing.DueKnown.{ticks_bring_nothing}
use Rattle.simulator_recovery.proofs.Lemmas.Ground.IxlAlways.{always}
use Rattle.simulator_recovery.proofs.Lemmas.Ground.IxlClients.{changed_at, mapped_at}
use Rattle.simulator_recovery.proofs.Lemmas.RoutesComing.NothingDueMoves.{move_leaves}
use Rattle.simulator_recovery.proofs.Lemmas.RoutesComing.NothingDueProceeds.{aspect_leaves}
use Rattle.simulator_recovery.proofs.Lemmas.Ground.SignalParts.{is_waiting_there}
use Rattle.simulator_recovery.proofs.Lemmas.Lamps.StopsGiven.{waiting_set}
use Rattle.simulator_recovery.proofs.Lemmas.Ground.DueTests.{first_true}
use Rattle.simulator_recovery.proofs.Lemmas.Ground.MovedAtOnce.{moved_keeps}

-- ---- how a route goes on

-- A route goes on: it was set where it is, with no more sections freed; and once it was given authority it is free, or has seen all that it saw.
pub record GoesOnward (old new : RouteState) : Type 0 where
  pub set : is_set new.phase ≡ true → is_set old.phase ≡ true
  pub freed : is_set new.phase ≡ true → freed_sections old.phase ≤ freed_sections new.phase
  pub authorised : was_authorised old.phase ≡ true → is_set new.phase ≡ true → was_authorised new.phase ≡ true
  pub seen : (place : ℕ) → was_authorised old.phase ≡ true → contains old.passage.seen place ≡ true → contains new.passage.seen place ≡ true

now_seen : (old new : RouteState) → new.phase ≡ old.phase → ((place : ℕ) → contains old.passage.seen place ≡ true → contains new.passage.seen place ≡ true) → GoesOnward old new
now_seen old new same seen = record {
  set = λ set. ap is_set (sym same) ∙ set;
  freed = λ set. let equal = ap freed_sections same in omega (arith, equal);
  authorised = λ was set. ap was_authorised same ∙ was;
  seen = λ place was. seen place;
}

pub same_phase : (old new : RouteState) → new.phase ≡ old.phase → new.passage ≡ old.passage → GoesOnward old new
same_phase old new same passage = now_seen old new same (λ place was. ap (λ p. contains p.seen place) passage ∙ was)

-- what was seen stays so as more is
seen_more : (set : Places) (at place : ℕ) → contains set place ≡ true → contains (insert set at) place ≡ true
seen_more set at place was = contains-insert nat_cmp_total set at place ∙ (ap (λ (b : Bool). b || contains set place) (unsigned_tied place at) ∙ (ap (λ (b : Bool). (place == at) || b) was ∙ either (place == at)))
  where
    either : (b : Bool) → (b || true) ≡ true
    either true = refl
    either false = refl

looks_onward : (section : ℕ) (occupied : Bool) (other : Row) (route : RouteState) → GoesOnward route (route_looks section occupied other route)
looks_onward section occupied other route = by_place (place_in section other.sections) refl occupied
  where
    by_place : (found : Option ℕ) → place_in section other.sections ≡ found → (b : Bool) → GoesOnward route (route_looks section b other route)
    by_place None e b = rw e (same_phase route route refl refl)
    by_place (Some at) e true = rw e (now_seen route _ refl (λ place was. seen_more route.passage.seen at place was))
    by_place (Some at) e false = rw e (now_seen route _ refl (λ place was. was))

withdrawn_onward : (route : RouteState) → is_proceeding route.phase ≡ true → GoesOnward route (come_to Phase.Withdrawn route)
withdrawn_onward route goes = by_phase route.phase refl goes
  where
    by_phase : (p : Phase) → route.phase ≡ p → is_proceeding p ≡ true → GoesOnward route (come_to Phase.Withdrawn route)
    by_phase Phase.Free e f = absurd (false≢true f)
    by_phase Phase.Waiting e f = absurd (false≢true f)
    by_phase Phase.Proceeding e f = record { set = λ set. ap is_set e; freed = λ set. let none = ap freed_sections e in omega (arith, none); authorised = λ was set. refl; seen = λ place was seen. seen }
    by_phase Phase.Withdrawn e f = absurd (false≢true f)
    by_phase (Phase.Ended clock done) e f = absurd (false≢true f)

ended_onward : (now : ℕ) (route : RouteState) → is_withdrawn route.phase ≡ true → GoesOnward route (come_to (Phase.Ended now 0) route)
ended_onward now route goes = by_phase route.phase refl goes
  where
    by_phase : (p : Phase) → route.phase ≡ p → is_withdrawn p ≡ true → GoesOnward route (come_to (Phase.Ended now 0) route)
    by_phase Phase.Free e f = absurd (false≢true f)
    by_phase Phase.Waiting e f = absurd (false≢true f)
    by_phase Phase.Proceeding e f = absurd (false≢true f)
    by_phase Phase.Withdrawn e f = record { set = λ set. ap is_set e; freed = λ set. let none = ap freed_sections e in omega (arith, none); authorised = λ was set. refl; seen = λ place was seen. seen }
    by_phase (Phase.Ended clock done) e f = absurd (false≢true f)

freed_onward : (route : RouteState) → GoesOnward route (freed route)
freed_onward route = record { set = λ set. absurd (false≢true set); freed = λ set. absurd (false≢true set); authorised = λ was set. absurd (false≢true set); seen = λ place was seen. seen }

one_freed_onward : (other : Row) (route : RouteState) (p : Phase) → route.phase ≡ p → GoesOnward route (one_freed other p route)
one_freed_onward other route (Phase.Ended clock done) e = choose (suc done == length other.sections)
  where
    choose : (b : Bool) → GoesOnward route (if b then freed route else come_to (Phase.Ended clock (suc done)) route)
    choose true = freed_onward route
    choose false = record { set = λ set. ap is_set e; freed = λ set. let some = ap freed_sections e in omega (arith, some); authorised = λ was set. refl; seen = λ place was seen. seen }
one_freed_onward other route Phase.Free e = same_phase route route refl refl
one_freed_onward other route Phase.Waiting e = same_phase route route refl refl
one_freed_onward other route Phase.Proceeding e = same_phase route route refl refl
one_freed_onward other route Phase.Withdrawn e = same_phase route route refl refl

waiting_none : (p : Phase) → is_waiting p ≡ true → freed_sections p ≡ 0
waiting_none Phase.Free e = absurd (false≢true e)
waiting_none Phase.Waiting e = refl
waiting_none Phase.Proceeding e = absurd (false≢true e)
waiting_none Phase.Withdrawn e = absurd (false≢true e)
waiting_none (Phase.Ended clock done) e = absurd (false≢true e)

waiting_first : (p : Phase) → is_waiting p ≡ true → was_authorised p ≡ true → ⊥
waiting_first Phase.Free e was = false≢true e
waiting_first Phase.Waiting e was = false≢true was
waiting_first Phase.Proceeding e was = false≢true e
waiting_first Phase.Withdrawn e was = false≢true e
waiting_first (Phase.Ended clock done) e was = false≢true e

pub authorised_onward : (table : Table) (ixl : IxlState) (other : Row) (route : RouteState) → is_waiting route.phase ≡ true → GoesOnward route (authorised table ixl other route)
authorised_onward table ixl other route waits = record {
  set = λ still. waiting_set route.phase waits;
  freed = λ still. let none = waiting_none route.phase waits in omega (arith, none);
  authorised = λ was set. refl;
  seen = λ place was. absurd (waiting_first route.phase waits was);
}

-- ---- a step

-- it is kept where a route goes onward
abbrev pub GoOnward : (List RouteState → Type 0) → Type 0
GoOnward P = (number : ℕ) (change : RouteState → RouteState) (routes : List RouteState)
    → ((route : RouteState) → slice_get routes number ≡ Some route → GoesOnward route (change route)) → P routes → P (changed change number routes)

-- What each part of a step keeps of the routes.
pub record RoutesKeep (now : ℕ) (table : Table) (P : List RouteState → Type 0) : Type 0 where
  pub onward : GoOnward P
  pub sets : (route : RouteId) (ixl : IxlState) → refusal now table (Command.Request route) ixl ≡ None → P ixl.routes → P (changed set_anew route.0 ixl.routes)

module _ (now : ℕ) (table : Table) (P : List RouteState → Type 0) (onward : GoOnward P) where
  abbrev Held : StepSoFar → Type 0
  Held part = P part.ixl.routes

  -- a change of the route that stands there
  turned : (number : ℕ) (change : RouteState → RouteState) (part : StepSoFar) (one : RouteState) → slice_get part.ixl.routes number ≡ Some one → GoesOnward one (change one) → Held part → Held (with_route number change part)
  turned number change part one here goes is = onward number change part.ixl.routes
      (λ route e. subst (λ (r : RouteState). GoesOnward r (change r)) (same_Some one route (sym here ∙ e)) goes) is

  withdrawing_held : (number : ℕ) (part : StepSoFar) → Held part → Held (withdrawing now table number part)
  unfolding withdrawing
  withdrawing_held number part is = route_keeps Held table number _ part (λ other one there here. where_keeps Held (is_stop_due table part.ixl other one) part _
      (λ due. subst P (sym (stopped_leaves now other (with_route number (come_to Phase.Withdrawn) part)).routes)
      (turned number (come_to Phase.Withdrawn) part one here (withdrawn_onward one (first_true (is_proceeding one.phase) _ due)) is)) is) is

  ending_held : (number : ℕ) (part : StepSoFar) → Held part → Held (ending_authority now table number part)
  unfolding ending_authority
  ending_held number part is = route_keeps Held table number _ part (λ other one there here. where_keeps Held (is_withdrawn one.phase && is_at_known_stop now part.ixl other.entry) part _
      (λ due. turned number (come_to (Phase.Ended now 0)) part one here (ended_onward now one (first_true (is_withdrawn one.phase) (is_at_known_stop now part.ixl other.entry) due)) is) is) is

  next_held : (number : ℕ) (part : StepSoFar) → Held part → Held (freeing_next table number part)
  unfolding freeing_next
  next_held number part is = route_keeps Held table number _ part (λ other one there here. where_keeps Held (frees_next table part.ixl other one one.phase) part _
      (λ due. turned number (one_freed other one.phase) part one here (one_freed_onward other one one.phase refl) is) is) is

  pub passage_held : (number : ℕ) (part : StepSoFar) → Held part → Held (freeing_by_passage table number part)
  passage_held = passage_keeps Held now table next_held

  pub cancel_held : (number : ℕ) (part : StepSoFar) → Held part → Held (freeing_by_cancel now table number part)
  unfolding freeing_by_cancel
  cancel_held number part is = route_keeps Held table number _ part (λ other one there here. where_keeps Held (one.cancelled && frees_cancelled now table part.ixl other one one.phase) part _
      (λ due. turned number freed part one here (freed_onward one) is) is) is

  moving_held : (number : ℕ) (part : StepSoFar) → Held part → Held (moving now table number part)
  unfolding moving moving_one
  moving_held number part is = route_keeps Held table number _ part (λ other one there here. along_keeps Held (moving_one now table number)
      (λ need q held. route_keeps Held table number _ q (λ row route row_there route_here. where_keeps Held (is_move_due table q.ixl number route need) q _ (λ due. subst P (sym (move_leaves now need.point need.side q).routes) held) held) held) other.needs part is) is

  proceeding_held : (number : ℕ) (part : StepSoFar) → Held part → Held (proceeding now table number part)
  unfolding proceeding
  proceeding_held number part is = route_keeps Held table number _ part (λ other one there here. where_keeps Held (is_proceed_due now table part.ixl other one) part _
      (λ due. subst P (sym (aspect_leaves now other.entry other.aspect (with_route number (authorised table part.ixl other) part)).routes)
      (turned number (authorised table part.ixl other) part one here (authorised_onward table part.ixl other one (is_waiting_there now table part.ixl other one due)) is)) is) is

  pub two_rules : (part : StepSoFar) → Held part → Held (ended now table part)
  two_rules part is = over_keeps Held (ending_authority now table) ending_held (count table) (withdrawn now table part) (over_keeps Held (withdrawing now table) withdrawing_held (count table) part is)

  pub ruled_held : (part : StepSoFar) → Held part → Held (ruled now table part)
  ruled_held part is =
      over_keeps Held (proceeding now table) proceeding_held (count table) (moved now table part)
      (over_keeps Held (moving now table) moving_held (count table) (freed_by_cancel now table part)
      (over_keeps Held (freeing_by_cancel now table) cancel_held (count table) (freed_by_passage now table part)
      (over_keeps Held (freeing_by_passage table) passage_held (count table) (ended now table part) (two_rules part is))))

  -- ---- what is heard

  pub watching_held : (number : ℕ) (part : StepSoFar) → Held part → Held (watching table number part)
  unfolding watching
  watching_held number part is = route_keeps Held table number _ part (λ other one there here. where_keeps Held (is_proceeding one.phase || is_withdrawn one.phase) part _ (λ due. turned number _ part one here (same_phase one _ refl refl) is) is) is

  looking_held : (look : ℕ × Bool) (part : StepSoFar) → Held part → Held (looking table look part)
  unfolding looking_by
  looking_held look part is = over_keeps Held (looking_by look.0 look.1 table) (λ number q all. route_keeps Held table number _ q (λ other one there here. where_keeps Held (was_authorised one.phase) q _
      (λ due. turned number (route_looks look.0 look.1 other) q one here (looks_onward look.0 look.1 other one) all) all) all) (count table) part is

  hearing_held : (bytes : List ℕ) (node : Node) (part : StepSoFar) → Held part → Held (node_hearing now table bytes node part)
  unfolding node_hearing known_signal_hearing known_point_hearing detector_hearing
  hearing_held bytes (Signal place) part is = one_keeps Held (slice_get part.ixl.known_signals place) _ part (λ known e. is) is
  hearing_held bytes (Point place) part is = one_keeps Held (slice_get part.ixl.known_points place) _ part (λ known e. is) is
  hearing_held bytes (Detector place) part is = one_keeps Held (slice_get table.detectors place) _ part (λ sections f. one_keeps Held (slice_get part.ixl.detectors place) _ part (λ known e.
      let done = hearing now bytes (begun known.client part.outbox)
      in along_keeps Held (looking table) looking_held (looks sections known done.heard done.client)
      (with_detector place (detector_after (occupied_heard done.heard known.occupied) done.client) (noted (Detector place) done part)) is) is) is

  pub heard_at : (bytes : List ℕ) (found : Option Node) (part : StepSoFar) → Held part → Held (with_one found (node_hearing now table bytes) part)
  heard_at bytes None part is = is
  heard_at bytes (Some node) part is = hearing_held bytes node part is

-- ---- all of it

module _ (now : ℕ) (table : Table) (P : List RouteState → Type 0) (keep : RoutesKeep now table P) where
  abbrev Holds : StepSoFar → Type 0
  Holds part = P part.ixl.routes

  obeyed_held : (command : Command) (part : StepSoFar) → refusal now table command part.ixl ≡ None → Holds part → Holds (record part { ixl = obeyed now command part.ixl })
  unfolding obeyed
  obeyed_held (Command.Request route) part none is = keep.sets route part.ixl none is
  obeyed_held (Command.Cancel route) part none is = keep.onward route.0 (λ old. record old { cancelled = true }) part.ixl.routes (λ one here. same_phase one _ refl refl) is
  obeyed_held Command.Resume part none is = is
  obeyed_held (Command.Release route) part none is = keep.onward route.0 (released_at now) part.ixl.routes (λ one here. same_phase one _ refl refl) is
  obeyed_held (Command.Move point side) part none is = is
  obeyed_held (Command.Close named) part none is = is
  obeyed_held (Command.Open named) part none is = is

  commanded_held : (cause : Option Refusal) (command : Command) (part : StepSoFar) → refusal now table command part.ixl ≡ cause → Holds part → Holds (record part { ixl = commanded_by now cause command part.ixl })
  commanded_held None command part none is = obeyed_held command part none is
  commanded_held (Some cause) command part refused is = is

  given_held : (key : Key) (input : Input) (part : StepSoFar) → Holds part → Holds (given now table key input part)
  unfolding given giving_move
  given_held key Tick part is = is
  given_held key (Datagram bytes) part is = heard_at now table P keep.onward bytes (addressed (reading key bytes) part.ixl) part is
  given_held key (Commands command) part is =
      moved_keeps Holds now table (λ point side q available all. one_keeps Holds (slice_get q.ixl.known_points point) _ q (λ known e. all) all)
      (refusal now table command part.ixl) command part refl (commanded_held (refusal now table command part.ixl) command part refl is)

  clocked_held : (part : StepSoFar) → Holds part → Holds (record part { ixl = all_clocked now part.ixl })
  unfolding all_clocked
  clocked_held part is = is

  pub seen_held : (key : Key) (input : Input) (part : StepSoFar) → Holds part → Holds (over (watching table) (count table) (given now table key input (record part { ixl = all_clocked now part.ixl })))
  seen_held key input part is = over_keeps Holds (watching table) (watching_held now table P keep.onward) (count table) _ (given_held key input (record part { ixl = all_clocked now part.ixl }) (clocked_held part is))

  pub step_held : (key : Key) (input : Input) (part : StepSoFar) → Holds part → Holds (stepped now table key input part)
  unfolding stepped
  step_held key input part is = subst P (sym (ticks_bring_nothing now input _).routes) (ruled_held now table P keep.onward _ (seen_held key input part is))

-- ---- points that set routes hold

-- two set routes that hold a point hold it at one side
abbrev pub PointsApart : Table → List RouteState → Type 0
PointsApart table routes = (a b : ℕ) (row other_row : Row) (route other : RouteState) (point : ℕ) (side another : Side) → a ≢ b → slice_get table.rows a ≡ Some row → slice_get table.rows b ≡ Some other_row
    → slice_get routes a ≡ Some route → slice_get routes b ≡ Some other → HoldsPoint row route.phase point side → HoldsPoint other_row other.phase point another → side ≡ another

-- what a request finds that isn't refused
same_side : (one other : Side) → (one ≢ other → ⊥) → one ≡ other
same_side Side.Right Side.Right never = refl
same_side Side.Right Side.Left never = absurd (never (λ same. cc same))
same_side Side.Left Side.Right never = absurd (never (λ same. cc same))
same_side Side.Left Side.Left never = refl

module _ (law : RequestLaw) (now : ℕ) (table : Table) where
  -- what is held after a change was held before it
  held_before : (row : Row) (old new : RouteState) (point : ℕ) (side : Side) → GoesOnward old new → HoldsPoint row new.phase point side → HoldsPoint row old.phase point side
  held_before row old new point side goes holds =
      let fewer = goes.freed holds.0
      in let awaited = holds.1.4
      in (goes.set holds.0, (holds.1.0, holds.1.1, holds.1.2, holds.1.3, omega (arith, fewer, awaited)))

  -- a route holds as much as it did before, or less
  pub record Before (number : ℕ) (row : Row) (route : RouteState) (routes : List RouteState) : Type 0 where
    pub was : RouteState
    pub there : slice_get routes number ≡ Some was
    pub held : (point : ℕ) (side : Side) → HoldsPoint row route.phase point side → HoldsPoint row was.phase point side

  pub before : (number : ℕ) (change : RouteState → RouteState) (routes : List RouteState) → ((route : RouteState) → slice_get routes number ≡ Some route → GoesOnward route (change route))
      → (k : ℕ) (row : Row) (route : RouteState) → slice_get table.rows k ≡ Some row → slice_get (changed change number routes) k ≡ Some route → Before k row route routes
  before number change routes goes k row route there here = choose (changed_at change number routes k route here)
    where
      choose : ((k ≡ number) × (was : RouteState) × (slice_get routes number ≡ Some was) × (route ≡ change was)) ⊎ (slice_get routes k ≡ Some route) → Before k row route routes
      choose (inl (same, was, e, so)) = record {
        was = was;
        there = ap (slice_get routes) same ∙ e;
        held = λ point side holds. held_before row was (change was) point side (goes was e) (subst (λ (r : RouteState). HoldsPoint row r.phase point side) so holds);
      }
      choose (inr e) = record { was = route; there = e; held = λ point side holds. holds }

  -- a point that another set route holds at another side blocks a request
  unblocked : (route : RouteId) (ixl : IxlState) → refusal now table (Command.Request route) ixl ≡ None → (row other_row : Row) (other : RouteState) (k point : ℕ) (side another : Side) → k ≢ route.0
      → slice_get table.rows route.0 ≡ Some row → slice_get table.rows k ≡ Some other_row → slice_get ixl.routes k ≡ Some other → HoldsPoint row Phase.Waiting point side → HoldsPoint other_row other.phase point another → side ≡ another
  unblocked route ixl none row other_row other k point side another differ row_there other_there there wanted holds = same_side side another (λ apart. admissible.unblocked k (record {
    row = other_row;
    route = other;
    is_route = (other_there, there);
    other = differ;
    set = holds.0;
    why = inr (inr (inr (inr (
      need,
      another,
      subst (λ (r : Row). Contains r.needs need) (sym same_row) wanted.1.1,
      (λ same. apart (sym wanted.1.3 ∙ sym same)),
      subst (λ (p : ℕ). HoldsPoint other_row other.phase p another) (sym wanted.1.2) holds,
    ))));
  }))
    where
      admissible : Admissible now table ixl route.0
      admissible = (law now table ixl route).0 none

      need : Need
      need = wanted.1.0

      same_row : admissible.row ≡ row
      same_row = same_Some admissible.row row (sym admissible.known.0 ∙ row_there)

  pub apart_keep : RoutesKeep now table (PointsApart table)
  apart_keep = record {
    onward = λ number change routes goes apart a b row other_row route other point side another differ row_there other_row_there there other_there holds other_holds.
        let one = before number change routes goes a row route row_there there
        in let two = before number change routes goes b other_row other other_row_there other_there
        in apart a b row other_row one.was two.was point side another differ row_there other_row_there one.there two.there (one.held point side holds) (two.held point another other_holds);
    sets = λ route ixl none apart a b row other_row one other point side another differ row_there other_row_there there other_there holds other_holds.
        by_set route ixl none apart a b row other_row one other point side another differ row_there other_row_there holds other_holds (changed_at set_anew route.0 ixl.routes a one there) (changed_at set_anew route.0 ixl.routes b other other_there);
  }
    where
      Found : ℕ → RouteId → IxlState → RouteState → Type 0
      Found k route ixl one = ((k ≡ route.0) × (was : RouteState) × (slice_get ixl.routes route.0 ≡ Some was) × (one ≡ set_anew was)) ⊎ (slice_get ixl.routes k ≡ Some one)

      by_set : (route : RouteId) (ixl : IxlState) → refusal now table (Command.Request route) ixl ≡ None → PointsApart table ixl.routes → (a b : ℕ) (row other_row : Row) (one other : RouteState) (point : ℕ) (side another : Side) → a ≢ b
          → slice_get table.rows a ≡ Some row → slice_get table.rows b ≡ Some other_row → HoldsPoint row one.phase point side → HoldsPoint other_row other.phase point another → Found a route ixl one → Found b route ixl other → side ≡ another
      by_set route ixl none apart a b row other_row one other point side another differ row_there other_there holds other_holds (inl (e, was, f, g)) (inl (h, other_was, i, j)) = absurd (differ (e ∙ sym h))
      by_set route ixl none apart a b row other_row one other point side another differ row_there other_there holds other_holds (inl (e, was, f, g)) (inr h) =
          unblocked route ixl none row other_row other b point side another (λ same. differ (e ∙ sym same)) (ap (slice_get table.rows) (sym e) ∙ row_there) other_there h (subst (λ (r : RouteState). HoldsPoint row r.phase point side) g holds) other_holds
      by_set route ixl none apart a b row other_row one other point side another differ row_there other_there holds other_holds (inr e) (inl (h, was, i, j)) =
          sym (unblocked route ixl none other_row row one a point another side (λ same. differ (same ∙ sym h)) (ap (slice_get table.rows) (sym h) ∙ other_there) row_there e (subst (λ (r : RouteState). HoldsPoint other_row r.phase point another) j other_holds) holds)
      by_set route ixl none apart a b row other_row one other point side another differ row_there other_there holds other_holds (inr e) (inr f) =
          apart a b row other_row one other point side another differ row_there other_there e f holds other_holds

pub new_apart : (site : Site) (table : Table) (begins : Beginning) → PointsApart table (new_ixl site table begins).routes
unfolding new_ixl
new_apart site table begins a b row other_row route other point side another differ row_there other_there there other_route_there holds other_holds =
    let found = mapped_at new_route_of table.rows a route there in absurd (false≢true (ap (λ (r : RouteState). is_set r.phase) (sym found.2) ∙ holds.0))

-- ---- each step, and every list of events

pub apart_stepped : RequestLaw → (site : Site) (table : Table) (input : Input) (world : WorldState) → PointsApart table world.interlocking.ixl.routes → PointsApart table (interlocking_stepped site table input world).interlocking.ixl.routes
unfolding interlocking_stepped
apart_stepped law site table input world is = step_held (reading_of world.interlocking.clock) table (PointsApart table) (apart_keep law (reading_of world.interlocking.clock) table) (key_of site) input (begun_with world.interlocking.ixl empty_outbox) is

pub always_apart : RequestLaw → (site : Site) (table : Table) (world : WorldState) → IsReached site table world → PointsApart table world.interlocking.ixl.routes
always_apart law site table = always site table (λ routes signals. PointsApart table routes) (new_apart site table) (λ input world is. apart_stepped law site table input world is)
