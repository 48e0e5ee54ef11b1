-- What is kept of one route by the parts of a step of an interlocking.
use Rattle.simulator_recovery.proofs.Words.Basics.{◌≡◌, ◌⊎◌, inl, inr, ℕ, suc, ◌==◌, ◌&&◌, ◌||◌, not, Bool, true, false, if◌then◌else◌, List, length, Option, Some, None, slice_get, refl, sym, ap, subst, ◌∙◌, false≢true, same_Some}
use Rattle.simulator_recovery.proofs.Words.Links.{reading, Key}
use Rattle.simulator_recovery.proofs.Words.Interlockings.{begun, hearing, commanded_by, is_ended, obeyed, refusal, refused_where, release_refusal, released_at, set_anew, authorised, come_to, count, ended, ending_authority, freed, freed_by_cancel, freed_by_passage, freeing_by_cancel, freeing_by_passage, freeing_next, frees_cancelled, frees_next, is_move_due, is_proceed_due, is_proceeding, is_stop_due, is_waiting, is_withdrawn, moved, moving, moving_one, one_freed, proceeding, ruled, withdrawing, withdrawn, PassageState, after_look, IxlState, RouteState, changed, Commands, Datagram, Input, Tick, addressed, all_clocked, detector_hearing, given, known_point_hearing, known_signal_hearing, looking, looking_by, looks, node_hearing, occupied_heard, route_looks, stepped, ticked, watching, Detector, Node, Point, Signal, StepSoFar, detector_after, noted, over, with_detector, with_one, with_route, Row, Table, is_at_known_stop, is_holding, is_set, place_in, was_authorised, Command, Refusal, Phase, giving_move}
use Rattle.simulator_recovery.proofs.Words.Stations.{RouteId}
use Rattle.simulator_recovery.proofs.Lemmas.Ground.DueShapes.{along_keeps, one_keeps, over_keeps, passage_keeps, route_keeps, where_keeps}
use Rattle.simulator_recovery.proofs.Lemmas.Ground.DueTests.{first_true}
use Rattle.simulator_recovery.proofs.Lemmas.Ground.IxlClients.{changed_at}
use Rattle.simulator_recovery.proofs.Lemmas.Ground.MovedAtOnce.{moved_keeps}
use Rattle.simulator_recovery.proofs.Lemmas.Ground.SignalParts.{is_waiting_there}
use Rattle.simulator_recovery.proofs.Lemmas.Lamps.StopsGiven.{where_none, where_not}
use Rattle.simulator_recovery.proofs.Lemmas.RoutesComing.DueCourse.{stopped_leaves}
use Rattle.simulator_recovery.proofs.Lemmas.RoutesComing.DueKnown.{ticks_bring_nothing}
use Rattle.simulator_recovery.proofs.Lemmas.RoutesComing.NothingDueMoves.{move_leaves}
use Rattle.simulator_recovery.proofs.Lemmas.RoutesComing.NothingDueProceeds.{aspect_leaves}

-- What each change of a route in a step keeps of it, where the commands that are accepted are such.
pub record TurnsKeep (now number : ℕ) (Obeys : Command → Type 0) (F : RouteState → Type 0) : Type 0 where
  pub withdrawn : (route : RouteState) → is_proceeding route.phase ≡ true → F route → F (come_to Phase.Withdrawn route)
  pub ended : (route : RouteState) → is_withdrawn route.phase ≡ true → F route → F (come_to (Phase.Ended now 0) route)
  pub passes : (route : RouteState) (clock done : ℕ) → route.phase ≡ Phase.Ended clock done → F route → F (come_to (Phase.Ended clock (suc done)) route)
  pub freed : (route : RouteState) → F route → F (freed route)
  pub authorised : (table : Table) (ixl : IxlState) (row : Row) (route : RouteState) → is_waiting route.phase ≡ true → F route → F (authorised table ixl row route)
  pub watched : (route : RouteState) (approached : Bool) → F route → F (record route { approached = approached })
  pub looked : (route : RouteState) (passage : PassageState) → F route → F (record route { passage = passage })
  pub sets : (asked : RouteId) (route : RouteState) → Obeys (Command.Request asked) → number ≡ asked.0 → F route → F (set_anew route)
  pub cancelled : (route : RouteState) → F route → F (record route { cancelled = true })
  pub released : (route : RouteState) → route.cancelled ≡ true → is_ended route.phase ≡ true → F route → F (released_at now route)

-- ---- a release that isn't refused

both_so : (a b : Bool) → not (a && b) ≡ false → (a ≡ true) × (b ≡ true)
both_so true true e = (refl, refl)
both_so true false e = absurd (false≢true (sym e))
both_so false b e = absurd (false≢true (sym e))

-- the route is cancelled, and its authority has ended
ended_there : (now : ℕ) (ixl : IxlState) (found : Option RouteState) (route : RouteState) → found ≡ Some route → release_refusal now ixl found ≡ None → (route.cancelled ≡ true) × (is_ended route.phase ≡ true)
ended_there now ixl None route e none = absurd (cc e)
ended_there now ixl (Some one) route e none =
    let third : Option Refusal = refused_where (not (one.cancelled && is_ended one.phase)) Refusal.NotEnded None
    in let second : Option Refusal = refused_where (not (is_set one.phase)) Refusal.NotSet third
    in let resumed = where_none (is_holding now ixl) Refusal.Holding (refused_where (not ixl.resumed) Refusal.NotResumed second) none
    in let set = where_none (not (is_set one.phase)) Refusal.NotSet third (where_none (not ixl.resumed) Refusal.NotResumed second resumed)
    in subst (λ (r : RouteState). (r.cancelled ≡ true) × (is_ended r.phase ≡ true)) (same_Some one route e)
    (both_so one.cancelled (is_ended one.phase) (where_not (not (one.cancelled && is_ended one.phase)) Refusal.NotEnded None set))

pub release_finds : (now : ℕ) (table : Table) (asked : RouteId) (ixl : IxlState) (route : RouteState) → refusal now table (Command.Release asked) ixl ≡ None → slice_get ixl.routes asked.0 ≡ Some route → (route.cancelled ≡ true) × (is_ended route.phase ≡ true)
unfolding refusal
release_finds now table asked ixl route none there = ended_there now ixl (slice_get ixl.routes asked.0) route there none

-- ---- a step

module _ (now : ℕ) (table : Table) (number : ℕ) (Obeys : Command → Type 0) (F : RouteState → Type 0) (keeps : TurnsKeep now number Obeys F) where
  abbrev Among : List RouteState → Type 0
  Among routes = (route : RouteState) → slice_get routes number ≡ Some route → F route

  abbrev Held : StepSoFar → Type 0
  Held part = Among part.ixl.routes

  changed_so : (place : ℕ) (change : RouteState → RouteState) (routes : List RouteState) → ((was : RouteState) → slice_get routes place ≡ Some was → number ≡ place → F was → F (change was)) → Among routes → Among (changed change place routes)
  changed_so place change routes so is route e = choose (changed_at change place routes number route e)
    where
      choose : ((number ≡ place) × (was : RouteState) × (slice_get routes place ≡ Some was) × (route ≡ change was)) ⊎ (slice_get routes number ≡ Some route) → F route
      choose (inl (same, was, there, is_new)) = subst F (sym is_new) (so was there same (is was (ap (slice_get routes) same ∙ there)))
      choose (inr there) = is route there

  -- a change of the route that stands there
  turned : (place : ℕ) (change : RouteState → RouteState) (part : StepSoFar) (one : RouteState) → slice_get part.ixl.routes place ≡ Some one → (F one → F (change one)) → Held part → Held (with_route place change part)
  turned place change part one here so = changed_so place change part.ixl.routes (λ was there same. subst (λ (r : RouteState). F r → F (change r)) (same_Some one was (sym here ∙ there)) so)

  -- ---- the rules

  withdrawing_held : (place : ℕ) (part : StepSoFar) → Held part → Held (withdrawing now table place part)
  unfolding withdrawing
  withdrawing_held place part is = route_keeps Held table place _ part (λ row one there here. where_keeps Held (is_stop_due table part.ixl row one) part _
      (λ due. subst Among (sym (stopped_leaves now row (with_route place (come_to Phase.Withdrawn) part)).routes)
      (turned place (come_to Phase.Withdrawn) part one here (keeps.withdrawn one (first_true (is_proceeding one.phase) _ due)) is)) is) is

  ending_held : (place : ℕ) (part : StepSoFar) → Held part → Held (ending_authority now table place part)
  unfolding ending_authority
  ending_held place part is = route_keeps Held table place _ part (λ row one there here. where_keeps Held (is_withdrawn one.phase && is_at_known_stop now part.ixl row.entry) part _
      (λ due. turned place (come_to (Phase.Ended now 0)) part one here (keeps.ended one (first_true (is_withdrawn one.phase) (is_at_known_stop now part.ixl row.entry) due)) is) is) is

  one_freed_so : (row : Row) (route : RouteState) (p : Phase) → route.phase ≡ p → F route → F (one_freed row p route)
  one_freed_so row route (Phase.Ended clock done) is so = choose (suc done == length row.sections)
    where
      choose : (b : Bool) → F (if b then freed route else come_to (Phase.Ended clock (suc done)) route)
      choose true = keeps.freed route so
      choose false = keeps.passes route clock done is so
  one_freed_so row route Phase.Free is so = so
  one_freed_so row route Phase.Waiting is so = so
  one_freed_so row route Phase.Proceeding is so = so
  one_freed_so row route Phase.Withdrawn is so = so

  next_held : (place : ℕ) (part : StepSoFar) → Held part → Held (freeing_next table place part)
  unfolding freeing_next
  next_held place part is = route_keeps Held table place _ part (λ row one there here. where_keeps Held (frees_next table part.ixl row one one.phase) part _
      (λ due. turned place (one_freed row one.phase) part one here (one_freed_so row one one.phase refl) is) is) is

  passage_held : (place : ℕ) (part : StepSoFar) → Held part → Held (freeing_by_passage table place part)
  passage_held = passage_keeps Held now table next_held

  cancel_held : (place : ℕ) (part : StepSoFar) → Held part → Held (freeing_by_cancel now table place part)
  unfolding freeing_by_cancel
  cancel_held place part is = route_keeps Held table place _ part (λ row one there here. where_keeps Held (one.cancelled && frees_cancelled now table part.ixl row one one.phase) part _
      (λ due. turned place freed part one here (keeps.freed one) is) is) is

  moving_held : (place : ℕ) (part : StepSoFar) → Held part → Held (moving now table place part)
  unfolding moving moving_one
  moving_held place part is = route_keeps Held table place _ part (λ row one there here. along_keeps Held (moving_one now table place)
      (λ need q held. route_keeps Held table place _ q (λ other route other_there route_here. where_keeps Held (is_move_due table q.ixl place route need) q _ (λ due. subst Among (sym (move_leaves now need.point need.side q).routes) held) held) held) row.needs part is) is

  proceeding_held : (place : ℕ) (part : StepSoFar) → Held part → Held (proceeding now table place part)
  unfolding proceeding
  proceeding_held place part is = route_keeps Held table place _ part (λ row one there here. where_keeps Held (is_proceed_due now table part.ixl row one) part _
      (λ due. subst Among (sym (aspect_leaves now row.entry row.aspect (with_route place (authorised table part.ixl row) part)).routes)
      (turned place (authorised table part.ixl row) part one here (keeps.authorised table part.ixl row one (is_waiting_there now table part.ixl row one due)) is)) is) is

  ruled_held : (part : StepSoFar) → Held part → Held (ruled now table part)
  ruled_held part is =
      over_keeps Held (proceeding now table) proceeding_held (count table) (moved now table part)
      (over_keeps Held (moving now table) moving_held (count table) (freed_by_cancel now table part)
      (over_keeps Held (freeing_by_cancel now table) cancel_held (count table) (freed_by_passage now table part)
      (over_keeps Held (freeing_by_passage table) passage_held (count table) (ended now table part)
      (over_keeps Held (ending_authority now table) ending_held (count table) (withdrawn now table part)
      (over_keeps Held (withdrawing now table) withdrawing_held (count table) part is)))))

  -- ---- what is seen before them

  watching_held : (place : ℕ) (part : StepSoFar) → Held part → Held (watching table place part)
  unfolding watching
  watching_held place part is = route_keeps Held table place _ part (λ row one there here. where_keeps Held (is_proceeding one.phase || is_withdrawn one.phase) part _ (λ due. turned place _ part one here (keeps.watched one _) is) is) is

  looks_so : (section : ℕ) (occupied : Bool) (row : Row) (route : RouteState) → F route → F (route_looks section occupied row route)
  looks_so section occupied row route so = by_place (place_in section row.sections) refl
    where
      by_place : (found : Option ℕ) → place_in section row.sections ≡ found → F (route_looks section occupied row route)
      by_place None e = rw e so
      by_place (Some place) e = rw e (keeps.looked route (after_look route.passage place occupied) so)

  looking_held : (look : ℕ × Bool) (part : StepSoFar) → Held part → Held (looking table look part)
  unfolding looking_by
  looking_held look part is = over_keeps Held (looking_by look.0 look.1 table) (λ place q all. route_keeps Held table place _ q (λ row one there here. where_keeps Held (was_authorised one.phase) q _
      (λ due. turned place (route_looks look.0 look.1 row) q one here (looks_so look.0 look.1 row one) all) all) all) (count table) part is

  hearing_held : (bytes : List ℕ) (node : Node) (part : StepSoFar) → Held part → Held (node_hearing now table bytes node part)
  unfolding node_hearing known_signal_hearing known_point_hearing detector_hearing
  hearing_held bytes (Signal place) part is = one_keeps Held (slice_get part.ixl.known_signals place) _ part (λ known e. is) is
  hearing_held bytes (Point place) part is = one_keeps Held (slice_get part.ixl.known_points place) _ part (λ known e. is) is
  hearing_held bytes (Detector place) part is = one_keeps Held (slice_get table.detectors place) _ part (λ sections f. one_keeps Held (slice_get part.ixl.detectors place) _ part (λ known e.
      let done = hearing now bytes (begun known.client part.outbox)
      in along_keeps Held (looking table) looking_held (looks sections known done.heard done.client)
      (with_detector place (detector_after (occupied_heard done.heard known.occupied) done.client) (noted (Detector place) done part)) is) is) is

  heard_at : (bytes : List ℕ) (found : Option Node) (part : StepSoFar) → Held part → Held (with_one found (node_hearing now table bytes) part)
  heard_at bytes None part is = is
  heard_at bytes (Some node) part is = hearing_held bytes node part is

  -- ---- the input

  obeyed_held : (command : Command) (part : StepSoFar) → Obeys command → refusal now table command part.ixl ≡ None → Held part → Held (record part { ixl = obeyed now command part.ixl })
  unfolding obeyed
  obeyed_held (Command.Request route) part obeys none is = changed_so route.0 set_anew part.ixl.routes (λ was there same. keeps.sets route was obeys same) is
  obeyed_held (Command.Cancel route) part obeys none is = changed_so route.0 (λ old. record old { cancelled = true }) part.ixl.routes (λ was there same. keeps.cancelled was) is
  obeyed_held Command.Resume part obeys none is = is
  obeyed_held (Command.Release route) part obeys none is =
      changed_so route.0 (released_at now) part.ixl.routes (λ was there same. let found = release_finds now table route part.ixl was none there in keeps.released was found.0 found.1) is
  obeyed_held (Command.Move point side) part obeys none is = is
  obeyed_held (Command.Close named) part obeys none is = is
  obeyed_held (Command.Open named) part obeys none is = is

  commanded_held : (cause : Option Refusal) (command : Command) (part : StepSoFar) → refusal now table command part.ixl ≡ cause → (refusal now table command part.ixl ≡ None → Obeys command) → Held part
      → Held (record part { ixl = commanded_by now cause command part.ixl })
  commanded_held None command part e obeys is = obeyed_held command part (obeys e) e is
  commanded_held (Some cause) command part e obeys is = is

  given_held : (key : Key) (input : Input) (part : StepSoFar) → ((command : Command) → input ≡ Commands command → refusal now table command part.ixl ≡ None → Obeys command) → Held part → Held (given now table key input part)
  unfolding given giving_move
  given_held key Tick part obeys is = is
  given_held key (Datagram bytes) part obeys is = heard_at bytes (addressed (reading key bytes) part.ixl) part is
  given_held key (Commands command) part obeys is =
      moved_keeps Held now table (λ point side q available all. one_keeps Held (slice_get q.ixl.known_points point) _ q (λ known e. all) all)
      (refusal now table command part.ixl) command part refl (commanded_held (refusal now table command part.ixl) command part refl (obeys command refl) is)

  clocked_held : (part : StepSoFar) → Held part → Held (record part { ixl = all_clocked now part.ixl })
  unfolding all_clocked
  clocked_held part is = is

  ticked_held : (input : Input) (part : StepSoFar) → Held part → Held (ticked now input part)
  ticked_held input part is = subst Among (sym (ticks_bring_nothing now input part).routes) is

  -- after the input, and the whole step
  pub behind_input_held : (input : Input) (heard : StepSoFar) → Held heard → Held (ticked now input (ruled now table (over (watching table) (count table) heard)))
  behind_input_held input heard is = ticked_held input (ruled now table (over (watching table) (count table) heard)) (ruled_held (over (watching table) (count table) heard) (over_keeps Held (watching table) watching_held (count table) heard is))

  pub step_held : (key : Key) (input : Input) (part : StepSoFar) → ((command : Command) → input ≡ Commands command → refusal now table command (all_clocked now part.ixl) ≡ None → Obeys command) → Held part → Held (stepped now table key input part)
  unfolding stepped
  step_held key input part obeys is = behind_input_held input (given now table key input (record part { ixl = all_clocked now part.ixl }))
      (given_held key input (record part { ixl = all_clocked now part.ixl }) obeys (clocked_held part is))
