-- What is kept of a route's passage is of as many sections as its row has.
use Rattle.simulator_recovery.proofs.Words.Basics.{◌≡◌, ◌⊎◌, inl, inr, ℕ, ◌&&◌, Bool, true, List, Option, Some, None, slice_get, sym, ap, subst, ◌∙◌, ◌||◌, not, same_Some, suc, ◌==◌, ◌<◌, false, if◌then◌else◌, length, refl, arith, nat_tests}
use Rattle.simulator_recovery.proofs.Words.Links.{reading, Key, reading_of}
use Rattle.simulator_recovery.proofs.Words.Interlockings.{begun, hearing, commanded_by, obeyed, refusal, released_at, set_anew, authorised, come_to, count, ended, ending_authority, freed, freed_by_cancel, freed_by_passage, freeing_by_cancel, freeing_by_passage, freeing_next, frees_cancelled, frees_next, is_move_due, is_proceed_due, is_proceeding, is_stop_due, is_withdrawn, moved, moving, moving_one, one_freed, proceeding, withdrawing, withdrawn, IxlState, RouteState, changed, Commands, Datagram, Input, Tick, addressed, all_clocked, detector_hearing, given, known_point_hearing, known_signal_hearing, looking, looking_by, looks, node_hearing, occupied_heard, route_looks, stepped, watching, Detector, Node, Point, Signal, StepSoFar, detector_after, noted, over, with_detector, with_one, with_route, Row, Table, is_approach_clear, is_at_known_stop, was_authorised, Command, Refusal, Phase, passage_after, begun_with, empty_outbox, freed_sections, place_in, giving_move}
use Rattle.simulator_recovery.proofs.Words.Stations.{Site, Beginning, new_ixl, new_route_of, interlocking_stepped, key_of, WorldState, IsReached}
use Rattle.simulator_recovery.proofs.Lemmas.RoutesComing.DueCourse.{stopped_leaves}
use Rattle.simulator_recovery.proofs.Lemmas.Ground.DueShapes.{along_keeps, one_keeps, over_keeps, passage_keeps, route_keeps, where_keeps}
use Rattle.simulator_recovery.proofs.Lemmas.RoutesComing.DueKnown.{ticks_bring_nothing}
use Rattle.simulator_recovery.proofs.Lemmas.Ground.IxlClients.{changed_at, mapped_at}
use Rattle.simulator_recovery.proofs.Lemmas.RoutesComing.NothingDueMoves.{move_leaves}
use Rattle.simulator_recovery.proofs.Lemmas.RoutesComing.NothingDueProceeds.{aspect_leaves}
use Rattle.simulator_recovery.proofs.Lemmas.Ground.DueTests.{first_true}
use Rattle.simulator_recovery.proofs.Lemmas.Ground.IxlAlways.{always}
use Rattle.simulator_recovery.proofs.Lemmas.Ground.MovedAtOnce.{moved_keeps}

-- ---- what is so of each route of the table, by its row, is so after a step, where each change of a route that a step may make keeps it

-- it is so of each route of the table
abbrev pub EachRoute : (Row → RouteState → Type 0) → Table → List RouteState → Type 0
EachRoute Q table routes = (number : ℕ) (row : Row) (route : RouteState) → slice_get table.rows number ≡ Some row → slice_get routes number ≡ Some route → Q row route

-- What each change of a route keeps of it, by its row: by the rules, by a command, and as its approach is watched.
pub record ChangesKeep (Q : Row → RouteState → Type 0) : Type 0 where
  pub approaches : (approached : Bool) (row : Row) (route : RouteState) → Q row route → Q row (record route { approached = approached })
  pub sets : (row : Row) (route : RouteState) → Q row route → Q row (set_anew route)
  pub cancels : (row : Row) (route : RouteState) → Q row route → Q row (record route { cancelled = true })
  pub releases : (now : ℕ) (row : Row) (route : RouteState) → Q row route → Q row (released_at now route)
  pub withdraws : (row : Row) (route : RouteState) → is_proceeding route.phase ≡ true → Q row route → Q row (come_to Phase.Withdrawn route)
  pub ends : (now : ℕ) (row : Row) (route : RouteState) → is_withdrawn route.phase ≡ true → Q row route → Q row (come_to (Phase.Ended now 0) route)
  pub frees_one : (row : Row) (route : RouteState) → Q row route → Q row (one_freed row route.phase route)
  pub frees : (row : Row) (route : RouteState) → Q row route → Q row (freed route)

-- What is kept of a route that is given authority.
abbrev pub ProceedsKeep : (Row → RouteState → Type 0) → Type 0
ProceedsKeep Q = (table : Table) (ixl : IxlState) (row : Row) (route : RouteState) → Q row route → Q row (authorised table ixl row route)

-- What each look at a section keeps of it.
abbrev pub LooksKeep : (Row → RouteState → Type 0) → Type 0
LooksKeep Q = (section : ℕ) (occupied : Bool) (row : Row) (route : RouteState) → Q row route → Q row (route_looks section occupied row route)

module _ (now : ℕ) (table : Table) (Q : Row → RouteState → Type 0) (keep : ChangesKeep Q) where
  abbrev pub Held : StepSoFar → Type 0
  Held part = EachRoute Q table part.ixl.routes

  changes : (number : ℕ) (change : RouteState → RouteState) (routes : List RouteState) → ((row : Row) (route : RouteState) → slice_get table.rows number ≡ Some row → slice_get routes number ≡ Some route → Q row route → Q row (change route))
      → EachRoute Q table routes → EachRoute Q table (changed change number routes)
  changes number change routes so all k row route there here = choose (changed_at change number routes k route here)
    where
      choose : ((k ≡ number) × (was : RouteState) × (slice_get routes number ≡ Some was) × (route ≡ change was)) ⊎ (slice_get routes k ≡ Some route) → Q row route
      choose (inl (same, was, e, is)) =
          let own : slice_get table.rows number ≡ Some row = ap (slice_get table.rows) (sym same) ∙ there
          in subst (Q row) (sym is) (so row was own e (all number row was own e))
      choose (inr e) = all k row route there e

  -- a change of the route that stands there
  pub turned : (number : ℕ) (change : RouteState → RouteState) (part : StepSoFar) (row : Row) (route : RouteState) → slice_get table.rows number ≡ Some row → slice_get part.ixl.routes number ≡ Some route → (Q row route → Q row (change route))
      → Held part → Held (with_route number change part)
  turned number change part row route there here so all = changes number change part.ixl.routes (λ other was other_there was_here is.
      let same_row : row ≡ other = same_Some row other (sym there ∙ other_there)
      in let same : route ≡ was = same_Some route was (sym here ∙ was_here)
      in subst (λ (r : Row). Q r (change was)) same_row (subst (λ (r : RouteState). Q row (change r)) same (so (subst (Q row) (sym same) (subst (λ (r : Row). Q r was) (sym same_row) is))))) all

  -- ---- the rules

  withdrawing_held : (number : ℕ) (part : StepSoFar) → Held part → Held (withdrawing now table number part)
  unfolding withdrawing
  withdrawing_held number part all = route_keeps Held table number _ part (λ row one there here. where_keeps Held (is_stop_due table part.ixl row one) part _
      (λ due. subst (λ (routes : List RouteState). EachRoute Q table routes) (sym (stopped_leaves now row (with_route number (come_to Phase.Withdrawn) part)).routes)
      (turned number (come_to Phase.Withdrawn) part row one there here (keep.withdraws row one (first_true (is_proceeding one.phase) _ due)) all)) all) all

  ending_held : (number : ℕ) (part : StepSoFar) → Held part → Held (ending_authority now table number part)
  unfolding ending_authority
  ending_held number part all = route_keeps Held table number _ part (λ row one there here. where_keeps Held (is_withdrawn one.phase && is_at_known_stop now part.ixl row.entry) part _
      (λ due. turned number (come_to (Phase.Ended now 0)) part row one there here (keep.ends now row one (first_true (is_withdrawn one.phase) (is_at_known_stop now part.ixl row.entry) due)) all) all) all

  next_held : (number : ℕ) (part : StepSoFar) → Held part → Held (freeing_next table number part)
  unfolding freeing_next
  next_held number part all = route_keeps Held table number _ part (λ row one there here. where_keeps Held (frees_next table part.ixl row one one.phase) part _
      (λ due. turned number (one_freed row one.phase) part row one there here (keep.frees_one row one) all) all) all

  pub passage_held : (number : ℕ) (part : StepSoFar) → Held part → Held (freeing_by_passage table number part)
  passage_held = passage_keeps Held now table next_held

  cancel_held : (number : ℕ) (part : StepSoFar) → Held part → Held (freeing_by_cancel now table number part)
  unfolding freeing_by_cancel
  cancel_held number part all = route_keeps Held table number _ part (λ row one there here. where_keeps Held (one.cancelled && frees_cancelled now table part.ixl row one one.phase) part _
      (λ due. turned number freed part row one there here (keep.frees row one) all) all) all

  moving_held : (number : ℕ) (part : StepSoFar) → Held part → Held (moving now table number part)
  unfolding moving moving_one
  moving_held number part all = route_keeps Held table number _ part (λ row one there here. along_keeps Held (moving_one now table number)
      (λ need q held. route_keeps Held table number _ q (λ other route other_there route_here. where_keeps Held (is_move_due table q.ixl number route need) q _
      (λ due. subst (λ (routes : List RouteState). EachRoute Q table routes) (sym (move_leaves now need.point need.side q).routes) held) held) held) row.needs part all) all

  pub two_rules : (part : StepSoFar) → Held part → Held (ended now table part)
  two_rules part all = over_keeps Held (ending_authority now table) ending_held (count table) (withdrawn now table part) (over_keeps Held (withdrawing now table) withdrawing_held (count table) part all)

  pub moved_held : (part : StepSoFar) → Held part → Held (moved now table part)
  moved_held part all =
      over_keeps Held (moving now table) moving_held (count table) (freed_by_cancel now table part)
      (over_keeps Held (freeing_by_cancel now table) cancel_held (count table) (freed_by_passage now table part)
      (over_keeps Held (freeing_by_passage table) passage_held (count table) (ended now table part) (two_rules part all)))

  -- ---- what is watched, and what is commanded

  pub watching_held : (number : ℕ) (part : StepSoFar) → Held part → Held (watching table number part)
  unfolding watching
  watching_held number part all = route_keeps Held table number _ part (λ row one there here. where_keeps Held (is_proceeding one.phase || is_withdrawn one.phase) part _
      (λ due. turned number _ part row one there here (keep.approaches (one.approached || not (is_approach_clear table part.ixl row)) row one) all) all) all

  obeyed_held : (command : Command) (part : StepSoFar) → Held part → Held (record part { ixl = obeyed now command part.ixl })
  unfolding obeyed
  obeyed_held (Command.Request route) part all = changes route.0 set_anew part.ixl.routes (λ row one there here. keep.sets row one) all
  obeyed_held (Command.Cancel route) part all = changes route.0 (λ old. record old { cancelled = true }) part.ixl.routes (λ row one there here. keep.cancels row one) all
  obeyed_held Command.Resume part all = all
  obeyed_held (Command.Release route) part all = changes route.0 (released_at now) part.ixl.routes (λ row one there here. keep.releases now row one) all
  obeyed_held (Command.Move point side) part all = all
  obeyed_held (Command.Close named) part all = all
  obeyed_held (Command.Open named) part all = all

  pub commanded_held : (cause : Option Refusal) (command : Command) (part : StepSoFar) → Held part → Held (record part { ixl = commanded_by now cause command part.ixl })
  commanded_held None command part all = obeyed_held command part all
  commanded_held (Some cause) command part all = all

  -- ---- what is heard

  module _ (looks_keep : LooksKeep Q) where
    looking_held : (look : ℕ × Bool) (part : StepSoFar) → Held part → Held (looking table look part)
    unfolding looking_by
    looking_held look part all = over_keeps Held (looking_by look.0 look.1 table) (λ number q held. route_keeps Held table number _ q (λ row one there here. where_keeps Held (was_authorised one.phase) q _
        (λ due. turned number (route_looks look.0 look.1 row) q row one there here (looks_keep look.0 look.1 row one) held) held) held) (count table) part all

    hearing_held : (bytes : List ℕ) (node : Node) (part : StepSoFar) → Held part → Held (node_hearing now table bytes node part)
    unfolding node_hearing known_signal_hearing known_point_hearing detector_hearing
    hearing_held bytes (Signal place) part all = one_keeps Held (slice_get part.ixl.known_signals place) _ part (λ known e. all) all
    hearing_held bytes (Point place) part all = one_keeps Held (slice_get part.ixl.known_points place) _ part (λ known e. all) all
    hearing_held bytes (Detector place) part all = one_keeps Held (slice_get table.detectors place) _ part (λ sections f. one_keeps Held (slice_get part.ixl.detectors place) _ part (λ known e.
        let done = hearing now bytes (begun known.client part.outbox)
        in along_keeps Held (looking table) looking_held (looks sections known done.heard done.client)
        (with_detector place (detector_after (occupied_heard done.heard known.occupied) done.client) (noted (Detector place) done part)) all) all) all

    heard_at : (bytes : List ℕ) (found : Option Node) (part : StepSoFar) → Held part → Held (with_one found (node_hearing now table bytes) part)
    heard_at bytes None part all = all
    heard_at bytes (Some node) part all = hearing_held bytes node part all

    given_held : (key : Key) (input : Input) (part : StepSoFar) → Held part → Held (given now table key input part)
    unfolding given giving_move
    given_held key Tick part all = all
    given_held key (Datagram bytes) part all = heard_at bytes (addressed (reading key bytes) part.ixl) part all
    given_held key (Commands command) part all =
        moved_keeps Held now table (λ point side q available all. one_keeps Held (slice_get q.ixl.known_points point) _ q (λ known e. all) all)
        (refusal now table command part.ixl) command part refl (commanded_held (refusal now table command part.ixl) command part all)

    clocked_held : (part : StepSoFar) → Held part → Held (record part { ixl = all_clocked now part.ixl })
    unfolding all_clocked
    clocked_held part all = all

    pub seen_held : (key : Key) (input : Input) (part : StepSoFar) → Held part → Held (over (watching table) (count table) (given now table key input (record part { ixl = all_clocked now part.ixl })))
    seen_held key input part all = over_keeps Held (watching table) watching_held (count table) _ (given_held key input (record part { ixl = all_clocked now part.ixl }) (clocked_held part all))

    module _ (proceeds : ProceedsKeep Q) where
      proceeding_held : (number : ℕ) (part : StepSoFar) → Held part → Held (proceeding now table number part)
      unfolding proceeding
      proceeding_held number part all = route_keeps Held table number _ part (λ row one there here. where_keeps Held (is_proceed_due now table part.ixl row one) part _
          (λ due. subst (λ (routes : List RouteState). EachRoute Q table routes) (sym (aspect_leaves now row.entry row.aspect (with_route number (authorised table part.ixl row) part)).routes)
          (turned number (authorised table part.ixl row) part row one there here (proceeds table part.ixl row one) all)) all) all

      pub step_held : (key : Key) (input : Input) (part : StepSoFar) → Held part → Held (stepped now table key input part)
      unfolding stepped
      step_held key input part all = subst (λ (routes : List RouteState). EachRoute Q table routes) (sym (ticks_bring_nothing now input _).routes)
          (over_keeps Held (proceeding now table) proceeding_held (count table) (moved now table _) (moved_held _ (seen_held key input part all)))

-- ---- what is kept of a route's passage is of as many sections as its row has

-- A route fits its row: its passage leads over the row's sections, and where the row has some, not all of them are freed while it is set.
pub record Fits (row : Row) (route : RouteState) : Type 0 where
  pub over : route.passage.sections ≡ length row.sections
  pub some_left : 0 < length row.sections → freed_sections route.phase < length row.sections

as_it_is : (row : Row) (old new : RouteState) → new.passage.sections ≡ old.passage.sections → freed_sections new.phase ≡ freed_sections old.phase → Fits row old → Fits row new
as_it_is row old new passage freed is = record { over = passage ∙ is.over; some_left = λ some. let left = is.some_left some in omega (arith, freed, left) }

-- none of its sections is freed
with_none : (row : Row) (old new : RouteState) → new.passage.sections ≡ old.passage.sections → freed_sections new.phase ≡ 0 → Fits row old → Fits row new
with_none row old new passage none is = record { over = passage ∙ is.over; some_left = λ some. omega (arith, none, some) }

pub looks_fit : LooksKeep Fits
looks_fit section occupied row route is = by_place (place_in section row.sections) refl
  where
    here : (place : ℕ) → place_in section row.sections ≡ Some place → (b : Bool) → Fits row (route_looks section b row route)
    here place e true = rw e (as_it_is row route _ refl refl is)
    here place e false = rw e (as_it_is row route _ refl refl is)

    by_place : (found : Option ℕ) → place_in section row.sections ≡ found → Fits row (route_looks section occupied row route)
    by_place None e = rw e is
    by_place (Some place) e = here place e occupied

one_freed_fits : (row : Row) (route : RouteState) (p : Phase) → route.phase ≡ p → Fits row route → Fits row (one_freed row p route)
one_freed_fits row route (Phase.Ended clock done) e is = choose (suc done == length row.sections) refl
  where
    choose : (b : Bool) → (suc done == length row.sections) ≡ b → Fits row (if b then freed route else come_to (Phase.Ended clock (suc done)) route)
    choose true f = with_none row route (freed route) refl refl is
    choose false f = record { over = is.over; some_left = λ some. more (is.some_left some) (ap freed_sections e) }
      where
        more : freed_sections route.phase < length row.sections → freed_sections route.phase ≡ done → suc done < length row.sections
        more left so = grind (arith, nat_tests, f, left, so)
one_freed_fits row route Phase.Free e is = is
one_freed_fits row route Phase.Waiting e is = is
one_freed_fits row route Phase.Proceeding e is = is
one_freed_fits row route Phase.Withdrawn e is = is

proceeds_fit : ProceedsKeep Fits
unfolding passage_after
proceeds_fit table ixl row route is = record { over = refl; some_left = λ some. some }

pub fits_keep : ChangesKeep Fits
fits_keep = record {
  approaches = λ approached row route is. as_it_is row route _ refl refl is;
  sets = λ row route is. with_none row route _ refl refl is;
  cancels = λ row route is. as_it_is row route _ refl refl is;
  releases = λ now row route is. as_it_is row route _ refl refl is;
  withdraws = λ row route goes is. with_none row route _ refl refl is;
  ends = λ now row route withdrawn is. with_none row route _ refl refl is;
  frees_one = λ row route is. one_freed_fits row route route.phase refl is;
  frees = λ row route is. with_none row route _ refl refl is;
}

-- ---- every list of events

pub new_fits : (site : Site) (table : Table) (begins : Beginning) → EachRoute Fits table (new_ixl site table begins).routes
unfolding new_ixl passage_after
new_fits site table begins number row route there here = own (mapped_at new_route_of table.rows number route here)
  where
    own : (of : Row) × (slice_get table.rows number ≡ Some of) × (route ≡ new_route_of of) → Fits row route
    own (of, at, is) = subst (Fits row) (sym is) (subst (λ (r : Row). Fits row (new_route_of r)) (same_Some row of (sym there ∙ at)) (record { over = refl; some_left = λ some. some }))

pub stepped_fits : (site : Site) (table : Table) (input : Input) (world : WorldState) → EachRoute Fits table world.interlocking.ixl.routes → EachRoute Fits table (interlocking_stepped site table input world).interlocking.ixl.routes
unfolding interlocking_stepped
stepped_fits site table input world is = step_held (reading_of world.interlocking.clock) table Fits fits_keep looks_fit proceeds_fit (key_of site) input (begun_with world.interlocking.ixl empty_outbox) is

pub always_fit : (site : Site) (table : Table) (world : WorldState) → IsReached site table world → EachRoute Fits table world.interlocking.ixl.routes
always_fit site table = always site table (λ routes signals. EachRoute Fits table routes) (new_fits site table) (stepped_fits site table)
