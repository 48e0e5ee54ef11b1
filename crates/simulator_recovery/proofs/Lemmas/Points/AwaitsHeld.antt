-- A point that a route holds with authority is awaited by no client: no move of it is out.
use Rattle.simulator_recovery.proofs.Words.Basics.{◌≡◌, ◌≢◌, ◌⊎◌, inl, inr, ℕ, ◌<◌, ◌==◌, Bool, true, false, List, [], Option, Some, None, slice_get, refl, sym, ap, subst, ◌∙◌, Contains, false≢true, same_Some}
use Rattle.simulator_recovery.proofs.Words.Controllers.{Side}
use Rattle.simulator_recovery.proofs.Words.Links.{settled, reading_of, Key}
use Rattle.simulator_recovery.proofs.Words.Interlockings.{IsTableOf, ClientState, is_available, is_outside, is_ready, clocked, Stage, commanded_by, obeyed, refusal, set_anew, unmoved_for, At, IsAvailable, IsHeldWithAuthority, IsRouteOf, come_to, count, ended, freed_by_cancel, freed_by_passage, freeing_by_cancel, freeing_by_passage, moved, moving, moving_one, proceeding, ruled, IxlState, KnownPointState, KnownSignalState, RouteState, changed, Commands, Datagram, Input, Tick, all_clocked, given, stepped, ticked, watching, StepSoFar, begun_with, empty_outbox, giving_move, over, Need, Row, Table, freed_sections, is_set, was_authorised, Command, Refusal, Phase}
use Rattle.simulator_recovery.proofs.Words.Stations.{Site, Beginning, new_ixl, new_route_of, interlocking_stepped, key_of, WorldState, IsReached}
use Rattle.simulator_recovery.proofs.Words.Recovery.{IsPointReady, AwaitsMove, HoldsWithAuthority, MoveLaw}
use Rattle.simulator_spec.specs.layout.declared.ids.PointId.{PointId}
use Rattle.simulator_recovery.proofs.Lemmas.Ground.AtLink.{mapped}
use Rattle.simulator_recovery.proofs.Lemmas.Ground.MovedAtOnce.{held_unmoved, moved_where}
use Rattle.simulator_recovery.proofs.Lemmas.RoutesComing.DueCourse.{at_changed}
use Rattle.simulator_recovery.proofs.Lemmas.Ground.DueShapes.{moving_keeps, one_keeps, over_keeps}
use Rattle.simulator_recovery.proofs.Lemmas.Ground.IxlAlways.{always_whole}
use Rattle.simulator_recovery.proofs.Lemmas.Ground.IxlClients.{mapped_at, point_client}
use Rattle.simulator_recovery.proofs.Lemmas.RoutesComing.NothingDueStops.{HoldsEach, held_stays, holds_each, one_leaves}
use Rattle.simulator_recovery.proofs.Lemmas.Points.OnceParts.{ClientsKeep, OfPoints, On, behind_moves_on, clocked_on, given_on, until_moves_on}
use Rattle.simulator_recovery.proofs.Lemmas.Points.SidesStep.{hears_nothing, stands, ticks_nothing}
use Rattle.simulator_recovery.proofs.Lemmas.Ground.SignalParts.{PartsKeep, both_rules, cancel_held, over_held, passage_held, step_held, watched_held}
use Rattle.simulator_recovery.proofs.Lemmas.Lamps.StopsGiven.{AnyCommand, changed_elsewhere, differs, is_equal}
use Rattle.simulator_recovery.proofs.Lemmas.Points.UnheldPhases.{HeldNone, HoldsNone, HoldsNoneAt, NoneOrKnown, NoneOrSided, moving_none, none_held, none_or, proceeding_or, step_or, ticked_or}

-- ---- the client: it comes to await a report by a move alone

abbrev AwaitsNone : ClientState → Type 0
AwaitsNone client = client.stage ≡ Stage.AwaitsReport → ⊥

abbrev AwaitsNoneAt : KnownPointState → Type 0
AwaitsNoneAt known = AwaitsNone known.client

clocked_none : (now : ℕ) (client : ClientState) → AwaitsNone client → AwaitsNone (clocked now client)
unfolding clocked
clocked_none now client none e = none (stands (record client { link = settled now client.link }) e).awaits

none_kept : (site : Site) (now : ℕ) → ClientsKeep now AwaitsNoneAt
none_kept site now = record {
  clock = λ known none. subst AwaitsNone (sym (point_client _ _ _)) (clocked_none now known.client none);
  hears = λ known side bytes outbox none. subst AwaitsNone (sym (point_client _ _ _)) (λ e. none ((hears_nothing site now 0 known.client outbox [] bytes).awaited e));
  ticks = λ known outbox none. subst AwaitsNone (sym (point_client _ _ _)) (λ e. none ((ticks_nothing site now 0 known.client outbox []).awaited e));
}

module _ (site : Site) (now point : ℕ) (table : Table) where
  abbrev Quiet : StepSoFar → Type 0
  Quiet = On point AwaitsNoneAt

  obeyed_quiet : (command : Command) (ixl : IxlState) → OfPoints point AwaitsNoneAt ixl.known_points → OfPoints point AwaitsNoneAt (obeyed now command ixl).known_points
  unfolding obeyed
  obeyed_quiet (Command.Request route) ixl is = λ known e awaits.
      let found = mapped_at (unmoved_for route.0) ixl.known_points point known e
      in is found.0 found.1 (ap (λ (k : KnownPointState). k.client.stage) (sym found.2) ∙ awaits)
  obeyed_quiet (Command.Cancel route) ixl is = is
  obeyed_quiet Command.Resume ixl is = is
  obeyed_quiet (Command.Release route) ixl is = is
  obeyed_quiet (Command.Move point side) ixl is = is
  obeyed_quiet (Command.Close named) ixl is = is
  obeyed_quiet (Command.Open named) ixl is = is

  commanded_quiet : (cause : Option Refusal) (command : Command) (ixl : IxlState) → OfPoints point AwaitsNoneAt ixl.known_points
      → OfPoints point AwaitsNoneAt (commanded_by now cause command ixl).known_points
  commanded_quiet None command ixl is = obeyed_quiet command ixl is
  commanded_quiet (Some cause) command ixl is = is

  -- another point is moved
  other_quiet : (other : PointId) (side : Side) (part : StepSoFar) → (other.0 ≡ point → ⊥) → Quiet part → Quiet (giving_move now other.0 side part)
  unfolding giving_move
  other_quiet other side part differ is = one_keeps Quiet (slice_get part.ixl.known_points other.0) _ part
      (λ known e one there awaits. is one (sym (changed_elsewhere _ other.0 point part.ixl.known_points (λ same. differ (sym same))) ∙ there) awaits) is

  -- unless the point itself is moved by command
  given_quiet : (key : Key) (input : Input) (part : StepSoFar) → ((moved : PointId) (side : Side) → input ≡ Commands (Command.Move moved side) → moved.0 ≡ point → refusal now table (Command.Move moved side) part.ixl ≡ None → ⊥) →
      Quiet part → Quiet (given now table key input part)
  unfolding given
  given_quiet key Tick part unmoved is = is
  given_quiet key (Datagram bytes) part unmoved is = given_on now point AwaitsNoneAt (none_kept site now) table key (Datagram bytes) part (λ command e. cc e) is
  given_quiet key (Commands command) part unmoved is =
      let cause = refusal now table command part.ixl
      in let commanded = commanded_quiet cause command part.ixl is
      in moved_where Quiet now cause command (record part { ixl = commanded_by now cause command part.ixl }) commanded
      (λ moved side same none. other_quiet moved side (record part { ixl = commanded_by now cause command part.ixl })
      (λ here. unmoved moved side (ap Commands same) here (subst (λ (c : Command). refusal now table c part.ixl ≡ None) same none)) commanded)

-- ---- the route is there in the middle of a step

module _ (now : ℕ) (table : Table) (k : ℕ) where
  abbrev IsThere : List RouteState → List KnownSignalState → Type 0
  IsThere routes signals = At routes k (λ route. Unit {0})

  change_there : (number : ℕ) (change : RouteState → RouteState) (routes : List RouteState) → At routes k (λ route. Unit {0}) → At (changed change number routes) k (λ route. Unit {0})
  change_there number change routes is = at_changed (λ route. Unit {0}) k number change routes (λ route same there so. tt) is

  there_kept : PartsKeep now table AnyCommand IsThere
  there_kept = record {
    rules = record {
      quiet = λ place change routes signals quiet is. change_there place change routes is;
      proceeds = λ place row route known items client change routes signals at waits goes_on proceeds there so is. change_there place change routes is;
      ticks = λ place known outbox routes signals there is. is;
    };
    clock = λ routes signals is. is;
    client = λ place known client indicated routes signals there goes is. is;
    withdraws = λ place row route known items client routes signals at given there so is. change_there place (come_to Phase.Withdrawn) routes is;
    falls = λ place row route routes signals at given not_ready is. change_there place (come_to Phase.Withdrawn) routes is;
    sets = λ route ixl any refused is. change_there route.0 set_anew ixl.routes is;
  }

-- ---- a step

module _ (law : MoveLaw) (site : Site) (table : Table) (holds : HoldsEach table) (k : ℕ) (row : Row) (row_there : slice_get table.rows k ≡ Some row) (need : Need)
    (within : Contains row.needs need) where
  -- the route holds none with authority, or no move of the point is out
  abbrev NoneOrQuiet : IxlState → Type 0
  NoneOrQuiet ixl = HoldsNoneAt site table k row row_there need within ixl ⊎ OfPoints need.point AwaitsNoneAt ixl.known_points

  sided_quiet : (ixl : IxlState) → NoneOrSided site table k row row_there need within ixl → NoneOrQuiet ixl
  sided_quiet ixl (inl none) = inl none
  sided_quiet ixl (inr sided) = inr (λ known e awaits.
      let it = sided (known, e, ap is_outside awaits)
      in false≢true (ap is_available (sym awaits) ∙ (ap (λ (one : KnownPointState). is_available one.client.stage) (same_Some known it.0 (sym e ∙ it.1)) ∙ it.2.0)))

  abbrev pub Holding : RouteState → Type 0
  Holding route = (was_authorised route.phase ≡ true) × (is_set route.phase ≡ true) × (freed_sections route.phase < need.until)

  -- ---- the fifth rule

  -- It gives no move to a point that is held with authority: so it keeps what the moves of other points keep.
  module _ (now : ℕ) (P : StepSoFar → Type 0) (others : (number : ℕ) (own : Need) (part : StepSoFar) → need.point ≢ own.point → P part → P (moving_one now table number own part)) where
    abbrev HeldSo : StepSoFar → Type 0
    HeldSo part = At part.ixl.routes k Holding × P part

    one_so : (number : ℕ) (own : Need) (part : StepSoFar) → HeldSo part → HeldSo (moving_one now table number own part)
    one_so number own part is = decide (need.point == own.point) refl
      where
        held : need.point ≡ own.point → IsHeldWithAuthority table part.ixl own.point
        held same = (k, row, is.0.0, need.side, (row_there, is.0.1), is.0.2.0, (is.0.2.1, (need, within, same, refl, is.0.2.2)))

        decide : (b : Bool) → (need.point == own.point) ≡ b → HeldSo (moving_one now table number own part)
        decide true e = subst HeldSo (sym (held_stays now table k law holds number own part (held (is_equal need.point own.point e)))) is
        decide false e = (
          subst (λ (routes : List RouteState). At routes k Holding) (sym (one_leaves now table k law holds number own part).routes) is.0,
          others number own part (differs need.point own.point e) is.1,
        )

    pub moved_so : (seen : StepSoFar) → At (freed_by_cancel now table seen).ixl.routes k Holding → P (freed_by_cancel now table seen) → P (moved now table seen)
    moved_so seen holding is = (over_keeps HeldSo (moving now table) (moving_keeps HeldSo now table one_so) (count table) (freed_by_cancel now table seen) (holding, is)).1

  -- ---- a step

  module _ (input : Input) (world : WorldState) where
    abbrev pub now : ℕ
    now = reading_of world.interlocking.clock

    abbrev begun_part : StepSoFar
    begun_part = begun_with world.interlocking.ixl empty_outbox

    -- what it has done after its input, and before the rules; and then after the fourth of them
    abbrev pub heard : StepSoFar
    heard = given now table (key_of site) input (record begun_part { ixl = all_clocked now begun_part.ixl })

    abbrev pub seen : StepSoFar
    seen = over (watching table) (count table) heard

    abbrev pub freed : StepSoFar
    freed = freed_by_cancel now table seen

    here : At world.interlocking.ixl.routes k (λ route. Unit {0}) → At freed.ixl.routes k (λ route. Unit {0})
    here there = over_held now table (IsThere now table k) (there_kept now table k).rules (freeing_by_cancel now table) (cancel_held now table (IsThere now table k) (there_kept now table k).rules)
        (count table) (freed_by_passage now table seen)
        (over_held now table (IsThere now table k) (there_kept now table k).rules (freeing_by_passage table) (passage_held now table (IsThere now table k) (there_kept now table k).rules)
        (count table) (ended now table seen)
        (both_rules now table AnyCommand (IsThere now table k) (there_kept now table k) seen
        (watched_held now table AnyCommand (IsThere now table k) (there_kept now table k) (key_of site) input begun_part (λ command e. tt) there)))

    -- the route holds none with authority before the fifth rule, or holds the point
    pub holds_or : At world.interlocking.ixl.routes k (λ route. Unit {0}) → At freed.ixl.routes k (λ route. HoldsNone need.until route.phase) ⊎ At freed.ixl.routes k Holding
    holds_or there = choose (none_or need.until (holds k row need row_there within) (here there).0.phase)
      where
        choose : HoldsNone need.until (here there).0.phase ⊎ Holding (here there).0 → At freed.ixl.routes k (λ route. HoldsNone need.until route.phase) ⊎ At freed.ixl.routes k Holding
        choose (inl none) = inl ((here there).0, (here there).1, none)
        choose (inr holding) = inr ((here there).0, (here there).1, holding)

    others_quiet : (number : ℕ) (own : Need) (part : StepSoFar) → need.point ≢ own.point → On need.point AwaitsNoneAt part → On need.point AwaitsNoneAt (moving_one now table number own part)
    others_quiet number own part differ is known there = is known (sym ((one_leaves now table k law holds number own part).points need.point differ) ∙ there)

    step_quiet : NoneOrQuiet world.interlocking.ixl → At world.interlocking.ixl.routes k (λ route. Unit {0}) → NoneOrQuiet (interlocking_stepped site table input world).interlocking.ixl
    unfolding interlocking_stepped stepped all_clocked
    step_quiet (inl none) there = sided_quiet (interlocking_stepped site table input world).interlocking.ixl (step_or site table k row row_there need within input world none)
    step_quiet (inr quiet) there = by_world (none_or need.until (holds k row need row_there within) there.0.phase)
      where
        -- the route holds the point with authority, so no command moves it
        unmoved : Holding there.0 → (moved : PointId) (side : Side) → moved.0 ≡ need.point → refusal now table (Command.Move moved side) (all_clocked now world.interlocking.ixl) ≡ None → ⊥
        unmoved holding = held_unmoved now table (all_clocked now world.interlocking.ixl) k row there.0 need row_there there.1 within holding.1 holding.2

        still : Holding there.0 → On need.point AwaitsNoneAt freed
        still holding = until_moves_on now need.point AwaitsNoneAt (none_kept site now) table heard
            (given_quiet site now need.point table (key_of site) input (record begun_part { ixl = all_clocked now begun_part.ixl }) (λ moved side is same none. unmoved holding moved side same none)
            (clocked_on now need.point AwaitsNoneAt (none_kept site now) begun_part quiet))

        by_phase : On need.point AwaitsNoneAt freed → At freed.ixl.routes k (λ route. HoldsNone need.until route.phase) ⊎ At freed.ixl.routes k Holding → NoneOrQuiet (ticked now input (ruled now table seen)).ixl
        by_phase quietly (inl none) = sided_quiet (ticked now input (ruled now table seen)).ixl (ticked_or site table k row row_there need within now input (ruled now table seen)
            (over_keeps (NoneOrKnown now table k need.until row row_there need within) (proceeding now table) (proceeding_or now table k need.until row row_there need within)
            (count table) (moved now table seen)
            (inl (over_keeps (HeldNone now table k need.until) (moving now table) (moving_none now table k need.until) (count table) freed none))))
        by_phase quietly (inr holding) = inr (behind_moves_on now need.point AwaitsNoneAt (none_kept site now) table input seen (moved_so now (On need.point AwaitsNoneAt) others_quiet seen holding quietly))

        by_world : HoldsNone need.until there.0.phase ⊎ Holding there.0 → NoneOrQuiet (ticked now input (ruled now table seen)).ixl
        by_world (inl none) = sided_quiet (ticked now input (ruled now table seen)).ixl (step_or site table k row row_there need within input world (there.0, there.1, none))
        by_world (inr holding) = by_phase (still holding) (holds_or there)

  -- ---- every list of events

  abbrev Stands : IxlState → Type 0
  Stands ixl = NoneOrQuiet ixl × At ixl.routes k (λ route. Unit {0})

  step_stands : (input : Input) (world : WorldState) → Stands world.interlocking.ixl → Stands (interlocking_stepped site table input world).interlocking.ixl
  unfolding interlocking_stepped
  step_stands input world is = (step_quiet input world is.0 is.1, there)
    where
      at : ℕ
      at = reading_of world.interlocking.clock

      there : At (stepped at table (key_of site) input (begun_with world.interlocking.ixl empty_outbox)).ixl.routes k (λ route. Unit {0})
      there = step_held at table AnyCommand (IsThere at table k) (there_kept at table k) (key_of site) input (begun_with world.interlocking.ixl empty_outbox) (λ command e. tt) is.1

  new_stands : (begins : Beginning) → Stands (new_ixl site table begins)
  unfolding new_ixl
  new_stands begins = (
    inl (new_route_of row, mapped new_route_of table.rows k row row_there, tt),
    (new_route_of row, mapped new_route_of table.rows k row row_there, tt),
  )

  pub always_quiet : (world : WorldState) → IsReached site table world → NoneOrQuiet world.interlocking.ixl
  always_quiet world reached = (always_whole site table Stands new_stands step_stands world reached).0

pub awaits_nothing : MoveLaw → (site : Site) (table : Table) (world : WorldState) (number : ℕ) (row : Row) (route : RouteState) (need : Need) → IsTableOf site table → IsReached site table world
    → IsRouteOf table world.interlocking.ixl number row route → HoldsWithAuthority need route → Contains row.needs need → AwaitsMove need.point world → ⊥
awaits_nothing law site table world number row route need is_table reached is holds within awaits =
    choose (always_quiet law site table (holds_each site table is_table) number row is.0 need within world reached)
  where
    choose : At world.interlocking.ixl.routes number (λ one. HoldsNone need.until one.phase) ⊎ OfPoints need.point AwaitsNoneAt world.interlocking.ixl.known_points → ⊥
    choose (inl none) = none_held need.until route.phase (subst (λ (one : RouteState). HoldsNone need.until one.phase) (same_Some none.0 route (sym none.1 ∙ is.1)) none.2) holds.0 holds.1
    choose (inr quiet) = quiet awaits.0 awaits.1 awaits.2

-- ---- a point whose link is ready

available_or : (world : WorldState) (point : ℕ) → IsPointReady world.interlocking.ixl point → IsAvailable world.interlocking.ixl point ⊎ AwaitsMove point world
available_or world point (known, there, ready) = by_stage known.client.stage refl ready
  where
    by_stage : (s : Stage) → known.client.stage ≡ s → is_ready s ≡ true → IsAvailable world.interlocking.ixl point ⊎ AwaitsMove point world
    by_stage Stage.Completed e is = inl (known, there, ap is_available e)
    by_stage Stage.AwaitsReport e is = inr (known, there, e)
    by_stage Stage.Outside e is = absurd (false≢true is)
    by_stage Stage.AwaitsAnswer e is = absurd (false≢true is)
    by_stage Stage.AwaitsStart e is = absurd (false≢true is)
    by_stage (Stage.AwaitsStatus left) e is = absurd (false≢true is)

-- so a point is available that a route holds with authority, where its link is ready
pub ready_available : MoveLaw → (site : Site) (table : Table) (world : WorldState) (number : ℕ) (row : Row) (route : RouteState) (need : Need) → IsTableOf site table → IsReached site table world
    → IsRouteOf table world.interlocking.ixl number row route → HoldsWithAuthority need route → Contains row.needs need → IsPointReady world.interlocking.ixl need.point → IsAvailable world.interlocking.ixl need.point
ready_available law site table world number row route need is_table reached is holds within ready = choose (available_or world need.point ready)
  where
    choose : IsAvailable world.interlocking.ixl need.point ⊎ AwaitsMove need.point world → IsAvailable world.interlocking.ixl need.point
    choose (inl available) = available
    choose (inr awaits) = absurd (awaits_nothing law site table world number row route need is_table reached is holds within awaits)
