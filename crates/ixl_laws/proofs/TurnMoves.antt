-- A point that was given a move counts as moved through the turns of a step.
use Rattle.std.proofs.Common.{◌≡◌, ℕ, Bool, true, false, List, refl, ap, sym, ◌∙◌, subst}
use Rattle.std.specs.Prelude.{◌==◌, Option, Some, None, slice_get}
use Rattle.std.specs.FinSet.{contains}
use Rattle.std.proofs.lemmas.Bool.{eq-eqb, eqb-true, false≢true}
use Rattle.ixl_state.specs.bit_row.Places.{Places}
use Rattle.ixl_state.specs.ixl_client.Client.{ClientState, is_outside}
use Rattle.ixl_state.specs.ixl_client.ClientSoFar.{ClientSoFar, Opens, Ticks, begun, calling}
use Rattle.ixl_state.specs.ixl_client.Step.{ticking}
use Rattle.ixl_state.specs.ixl_spec.Due.{MoveDue}
use Rattle.ixl_state.specs.ixl_spec.Rules.{authorised, come_to, freed, one_freed, stopped}
use Rattle.ixl_state.specs.ixl_spec.State.{KnownPointState, RouteState}
use Rattle.ixl_state.specs.ixl_spec.Step.{detector_ticking, known_point_ticking, known_signal_ticking}
use Rattle.ixl_state.specs.ixl_spec.StepSoFar.{Detector, Node, Point, Signal, StepSoFar, giving_aspect, giving_move, known_point_after, noted, with_known_point, with_one, with_route}
use Rattle.ixl_state.specs.ixl_spec.Table.{Need, Table}
use Rattle.ixl_state.specs.ixl_spec.View.{is_signal_ready}
use Rattle.ixl_state.specs.ixl_spec.declared.phase.Phase.TheVariants as phase
use Rattle.ixl_laws.specs.WholeStep.{Beat, DoesItsTurn, EndAuthority, FreeCancelled, FreeSection, MovePoint, Passed, Proceed, Turn, Watch, Withdraw, approach_seen, beaten}
use Rattle.ixl_laws.proofs.Clients.{known_point_client}
use Rattle.ixl_laws.proofs.Hears.{inside_stays}
use Rattle.ixl_laws.proofs.Once.{inside_of, moved_is, moves_count}
use Rattle.ixl_laws.proofs.PickedByTest.{changed_elsewhere, changed_here, either, some_same}
use Rattle.ixl_laws.proofs.Ruled.{with_one_or_none}
use Rattle.ixl_laws.proofs.TurnKeeps.{Stays, where_stays}
use Rattle.ixl_laws.proofs.WholeFits.{changed_or_same, move_keeps, with_one_keeps}

-- inside its connection the point was given a move since each route was set
abbrev pub HasMoved : ℕ → StepSoFar → Type 0
HasMoved point part = (known_point : KnownPointState) → slice_get part.ixl.known_points point ≡ Some known_point → is_outside known_point.client.stage ≡ false →
    (number : ℕ) (route : RouteState) → slice_get part.ixl.routes number ≡ Some route → contains known_point.moved number ≡ true

same_moved : (point : ℕ) (a b : StepSoFar) → slice_get b.ixl.known_points point ≡ slice_get a.ixl.known_points point → b.ixl.routes ≡ a.ixl.routes → HasMoved point a → HasMoved point b
same_moved point a b points routes moved known_point there inside number route is =
    moved known_point (sym points ∙ there) inside number route (ap (λ (list : List RouteState). slice_get list number) (sym routes) ∙ is)

route_moved : (point place : ℕ) (change : RouteState → RouteState) (part : StepSoFar) → HasMoved point part → HasMoved point (with_route place change part)
route_moved point place change part moved known_point there inside number route is =
    let before = changed_or_same change place number part.ixl.routes route is in moved known_point there inside number before.0 before.1

-- ---- what is given

with_one_leaves : {A : Type 0} (one : Option A) (does : A → StepSoFar → StepSoFar) (part : StepSoFar) → ((a : A) → (does a part).ixl.known_points ≡ part.ixl.known_points) → (with_one one does part).ixl.known_points ≡ part.ixl.known_points
with_one_leaves None does part each = refl
with_one_leaves (Some a) does part each = each a

aspect_moved : (now point signal : ℕ) (aspect : _) (part : StepSoFar) → HasMoved point part → HasMoved point (giving_aspect now signal aspect part)
unfolding giving_aspect
aspect_moved now point signal aspect part moved = same_moved point part (giving_aspect now signal aspect part)
    (ap (λ (list : List KnownPointState). slice_get list point) (with_one_leaves (slice_get part.ixl.known_signals signal) _ part (λ known_signal. refl)))
    (with_one_keeps (slice_get part.ixl.known_signals signal) _ part (λ known_signal. refl)) moved

-- whatever was so before
pub given_moved : (now point : ℕ) (side : _) (part : StepSoFar) → HasMoved point (giving_move now point side part)
given_moved now point side part known_point there inside number route is =
    moves_count now point side part number route known_point (ap (λ (list : List RouteState). slice_get list number) (sym (move_keeps now point side part)) ∙ is) there inside

move_elsewhere : (now point other : ℕ) (side : _) (part : StepSoFar) → (point ≡ other → ⊥) → slice_get (giving_move now other side part).ixl.known_points point ≡ slice_get part.ixl.known_points point
unfolding giving_move
move_elsewhere now point other side part apart =
    with_one_or_none (λ (p : StepSoFar). slice_get p.ixl.known_points point ≡ slice_get part.ixl.known_points point) (slice_get part.ixl.known_points other) _ part
    (λ known_point here. changed_elsewhere _ other point part.ixl.known_points apart) (λ none. refl)

move_moved : (now point other : ℕ) (side : _) (part : StepSoFar) → HasMoved point part → HasMoved point (giving_move now other side part)
move_moved now point other side part moved = by_place (point == other) refl where
  by_place : (b : Bool) → (point == other) ≡ b → HasMoved point (giving_move now other side part)
  by_place true same = subst (λ n. HasMoved point (giving_move now n side part)) (eqb-true point other same) (given_moved now point side part)
  by_place false apart = same_moved point part (giving_move now other side part) (move_elsewhere now point other side part (λ same. false≢true (sym apart ∙ eq-eqb point other same))) (move_keeps now other side part) moved

-- ---- ticks

tick_inside : (now : ℕ) (a : ClientSoFar) → is_outside (ticking now a).client.stage ≡ false → is_outside a.client.stage ≡ false
unfolding ticking calling
tick_inside now a inside =
    let opened : ClientState = (calling now Opens (calling now Ticks a)).client
    in ap is_outside (sym (inside_stays opened inside)) ∙ inside

-- what a tick does at a point
unfoldable ticked_point : ℕ → ℕ → KnownPointState → StepSoFar → StepSoFar
ticked_point now place old part =
    let done = ticking now (begun old.client part.outbox)
    in with_known_point place (known_point_after old.side old.moved done.client) (noted (Point place) done part)

point_ticks : (now point place : ℕ) (part : StepSoFar) (old : KnownPointState) → slice_get part.ixl.known_points place ≡ Some old → HasMoved point part → HasMoved point (ticked_point now place old part)
unfolding ticked_point
point_ticks now point place part old here moved = by_place (point == place) refl where
  done : ClientSoFar
  done = ticking now (begun old.client part.outbox)

  new : KnownPointState
  new = known_point_after old.side old.moved done.client

  after : StepSoFar
  after = with_known_point place new (noted (Point place) done part)

  by_place : (b : Bool) → (point == place) ≡ b → HasMoved point after
  by_place false apart = same_moved point part after (changed_elsewhere (λ _. new) place point part.ixl.known_points (λ same. false≢true (sym apart ∙ eq-eqb point place same))) refl moved
  by_place true same = here_too where
    here_too : HasMoved point after
    here_too known_point there inside number route is =
        let at : slice_get part.ixl.known_points point ≡ Some old = ap (λ n. slice_get part.ixl.known_points n) (eqb-true point place same) ∙ here
        in let found = changed_here (λ _. new) place part.ixl.known_points known_point (ap (λ n. slice_get after.ixl.known_points n) (sym (eqb-true point place same)) ∙ there)
        in let in_it : is_outside done.client.stage ≡ false = sym (ap (λ (c : ClientState). is_outside c.stage) (known_point_client old.side old.moved done.client)) ∙ sym (ap (λ (s : KnownPointState). is_outside s.client.stage) found.2) ∙ inside
        in ap (λ (s : KnownPointState). contains s.moved number) found.2 ∙ ap (λ (row : Places). contains row number) (moved_is old.side old.moved done.client in_it)
        ∙ moved old at (tick_inside now (begun old.client part.outbox) in_it) number route is

tick_moved : (now point place : ℕ) (part : StepSoFar) → HasMoved point part → HasMoved point (known_point_ticking now place part)
unfolding known_point_ticking ticked_point
tick_moved now point place part moved =
    with_one_or_none (HasMoved point) (slice_get part.ixl.known_points place) (ticked_point now place) part (λ old here. point_ticks now point place part old here moved) (λ none. moved)

beaten_moved : (now point : ℕ) (node : Node) (part : StepSoFar) → HasMoved point part → HasMoved point (beaten now node part)
unfolding known_signal_ticking detector_ticking
beaten_moved now point (Point place) part moved = tick_moved now point place part moved
beaten_moved now point (Signal place) part moved = same_moved point part (known_signal_ticking now place part)
    (ap (λ (list : List KnownPointState). slice_get list point) (with_one_leaves (slice_get part.ixl.known_signals place) _ part (λ known_signal. refl)))
    (with_one_keeps (slice_get part.ixl.known_signals place) _ part (λ known_signal. refl)) moved
beaten_moved now point (Detector place) part moved = same_moved point part (detector_ticking now place part)
    (ap (λ (list : List KnownPointState). slice_get list point) (with_one_leaves (slice_get part.ixl.detectors place) _ part (λ detector. refl)))
    (with_one_keeps (slice_get part.ixl.detectors place) _ part (λ detector. refl)) moved

-- ---- each turn

module _ (now : ℕ) (table : Table) (point : ℕ) where
  abbrev Moved : StepSoFar → Type 0
  Moved part = HasMoved point part

  pub moved_kept : (turn : Turn) (before after : StepSoFar) → DoesItsTurn now table turn before after → HasMoved point before → Stays (HasMoved point after)
  moved_kept (Watch place) before after (row, route, is, does) moved lost =
      where_stays Moved before (with_route place (approach_seen table before.ixl row) before) after does moved (λ due. route_moved point place (approach_seen table before.ixl row) before moved) lost
  moved_kept (Withdraw place) before after (row, route, is, does) moved lost =
      where_stays Moved before (stopped now row (with_route place (come_to phase.Withdrawn) before)) after does moved
      (λ due. stop (with_route place (come_to phase.Withdrawn) before) (route_moved point place (come_to phase.Withdrawn) before moved)) lost
    where
      stop : (part : StepSoFar) → HasMoved point part → HasMoved point (stopped now row part)
      stop part is = either Moved (is_signal_ready part.ixl row.entry) _ _ (aspect_moved now point row.entry _ part is) is
  moved_kept (EndAuthority place) before after (row, route, is, does) moved lost =
      where_stays Moved before (with_route place (come_to (phase.Ended now 0)) before) after does moved (λ due. route_moved point place (come_to (phase.Ended now 0)) before moved) lost
  moved_kept (FreeSection place) before after (row, route, is, does) moved lost =
      where_stays Moved before (with_route place (one_freed row route.phase) before) after does moved (λ due. route_moved point place (one_freed row route.phase) before moved) lost
  moved_kept (Passed place) before after (row, route, is, (same, none)) moved lost = lost (subst Moved (sym same) moved)
  moved_kept (FreeCancelled place) before after (row, route, is, does) moved lost =
      where_stays Moved before (with_route place freed before) after does moved (λ due. route_moved point place freed before moved) lost
  moved_kept (MovePoint place need) before after (row, route, is, does) moved lost =
      where_stays Moved before (giving_move now need.point need.side before) after does moved (λ due. move_moved now point need.point need.side before moved) lost
  moved_kept (Proceed place) before after (row, route, is, does) moved lost =
      where_stays Moved before (giving_aspect now row.entry row.aspect (with_route place (authorised table before.ixl row) before)) after does moved
      (λ due. aspect_moved now point row.entry row.aspect (with_route place (authorised table before.ixl row) before) (route_moved point place (authorised table before.ixl row) before moved)) lost
  moved_kept (Beat node) before after same moved lost = lost (subst Moved (sym same) (beaten_moved now point node before moved))

-- a move is due no more
pub moved_not_due : (table : Table) (ixl : StepSoFar) (number : ℕ) (route : RouteState) (need : Need) → HasMoved need.point ixl → slice_get ixl.ixl.routes number ≡ Some route → MoveDue table ixl.ixl number route need → ⊥
moved_not_due table part number route need moved is due =
    let same : due.available.0 ≡ due.once.0 = some_same (sym due.available.1 ∙ due.once.1)
    in let inside : is_outside due.once.0.client.stage ≡ false = subst (λ (s : KnownPointState). is_outside s.client.stage ≡ false) same (inside_of due.available.0.client.stage due.available.2)
    in false≢true (sym due.once.2 ∙ moved due.once.0 due.once.1 inside number route is)
