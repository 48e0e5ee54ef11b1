-- No move waits that is due: it is given in the step in which it may be.
use Rattle.simulator_recovery.proofs.Words.Basics.{◌≡◌, ◌≢◌, ◌⊎◌, inl, inr, ℕ, suc, ◌<◌, ◌==◌, Bool, true, false, if◌then◌else◌, List, [], ◌∷◌, length, IsTrue, Option, Some, None, slice_get, refl, sym, ap, subst, ◌∙◌, arith, contains, Contains, false≢true, nat_tests, All-cons, All-contains, All-nil, none-some, same_Some}
use Rattle.simulator_recovery.proofs.Words.Links.{reading_of, is_up}
use Rattle.simulator_recovery.proofs.Words.Controllers.{Side}
use Rattle.simulator_spec.specs.ixl_spec.closings.declared.closed.Closings.{Closings}
use Rattle.simulator_recovery.proofs.Words.Interlockings.{LiesInClosed, ClientState, is_available, is_outside, ClientSoFar, begun, commanding, fallen, message_of, posting, stage_after_command, Stage, IsAvailable, IsClear, IsHeldWithAuthority, IsRouteOf, MoveDue, authorised, count, freed_by_cancel, is_move_due, is_proceed_due, is_waiting, moved, moving, moving_one, proceeding, ruled, IxlState, KnownDetectorState, KnownPointState, RouteState, changed, Input, all_clocked, given, stepped, ticked, watching, StepSoFar, all_below, along, begun_with, empty_outbox, giving_aspect, giving_move, known_point_after, over, with_route, Need, Row, Table, was_authorised, Phase}
use Rattle.simulator_recovery.proofs.Words.Stations.{Places, Site, Beginning, new_ixl, new_route_of, interlocking_stepped, key_of, WorldState, IsReached}
use Rattle.simulator_recovery.proofs.Words.Recovery.{MoveLaw}
use Rattle.std.proofs.Common.{All}
use Rattle.simulator_spec.specs.ixl_client.declared.command.Command.{Command}
use Rattle.simulator_recovery.proofs.Lemmas.Ground.DueShapes.{along_keeps, at_one, each_over, no_route, one_else, one_keeps, over_keeps, route_keeps, where_keeps}
use Rattle.simulator_recovery.proofs.Lemmas.RoutesComing.DueKnown.{BringsNothing, PointStands, PointWas, available_before, available_inside, clear_before, known_still, ticks_bring_nothing}
use Rattle.simulator_recovery.proofs.Lemmas.Ground.IxlAlways.{always_whole}
use Rattle.simulator_recovery.proofs.Lemmas.Ground.IxlClients.{changed_at, mapped_at, point_client}
use Rattle.simulator_recovery.proofs.Lemmas.RoutesComing.NothingDueProceeds.{AspectLeaves, aspect_leaves}
use Rattle.simulator_recovery.proofs.Lemmas.Ground.SignalParts.{is_waiting_there}
use Rattle.simulator_recovery.proofs.Lemmas.Silence.Spent.{within_some}
use Rattle.simulator_recovery.proofs.Lemmas.Lamps.StopsGiven.{changed_elsewhere, changed_here, differs, is_equal}

-- ---- a move that is given changes one point, and this isn't available

pub record MoveLeaves (point : ℕ) (old new : IxlState) : Type 0 where
  pub routes : new.routes ≡ old.routes
  pub signals : new.known_signals ≡ old.known_signals
  pub detectors : new.detectors ≡ old.detectors
  pub closed : new.closed ≡ old.closed
  pub points : (k : ℕ) → k ≢ point → slice_get new.known_points k ≡ slice_get old.known_points k

pub move_leaves : (now point : ℕ) (side : Side) (part : StepSoFar) → MoveLeaves point part.ixl (giving_move now point side part).ixl
unfolding giving_move
move_leaves now point side part = one_keeps (λ (q : StepSoFar). MoveLeaves point part.ixl q.ixl) (slice_get part.ixl.known_points point) _ part
    (λ known e. record { routes = refl; signals = refl; detectors = refl; closed = refl; points = λ k differ. changed_elsewhere _ point k part.ixl.known_points differ })
    (record { routes = refl; signals = refl; detectors = refl; closed = refl; points = λ k differ. refl })

awaits_then : (side : Side) (s : Stage) → is_available (stage_after_command (Command.Move side) s) ≡ false
awaits_then side Stage.Outside = refl
awaits_then side Stage.AwaitsAnswer = refl
awaits_then side Stage.AwaitsStart = refl
awaits_then side (Stage.AwaitsStatus left) = refl
awaits_then side Stage.Completed = refl
awaits_then side Stage.AwaitsReport = refl

moved_client : (now : ℕ) (side : Side) (part : ClientSoFar) → is_available (commanding now (Command.Move side) part).client.stage ≡ false
unfolding commanding fallen
moved_client now side part = choose (is_up posted.link.phase)
  where
    posted : ClientState
    posted = (posting now (message_of (Command.Move side)) part).client

    late : ClientState
    late = record posted { stage = stage_after_command (Command.Move side) part.client.stage }

    choose : (b : Bool) → is_available (if b then late else record late { stage = Stage.Outside }).stage ≡ false
    choose true = awaits_then side part.client.stage
    choose false = refl

pub moved_point : (now point : ℕ) (side : Side) (part : StepSoFar) → IsAvailable (giving_move now point side part).ixl point → ⊥
unfolding giving_move
moved_point now point side part = one_else (λ (q : StepSoFar). IsAvailable q.ixl point → ⊥) (slice_get part.ixl.known_points point) _ part
    (λ known e is.
    let done : ClientSoFar = commanding now (Command.Move side) (begun known.client part.outbox)
    in let new : KnownPointState = known_point_after known.side (all_below (length part.ixl.routes)) done.client
    in let same : is.0 ≡ new = same_Some is.0 new (sym is.1 ∙ changed_here (λ old. new) point part.ixl.known_points known e)
    in false≢true (sym (moved_client now side (begun known.client part.outbox)) ∙ (ap (λ (c : ClientState). is_available c.stage) (sym (ap (λ (k : KnownPointState). k.client) same ∙ point_client _ _ done.client)) ∙ is.2)))
    (λ none is. none-some is.0 (sym none ∙ is.1))

-- ---- what is due

-- a point lies in a closed section after a change that closes and opens nothing
pub same_closings_hold : (table : Table) (old new : IxlState) (point : ℕ) → new.closed ≡ old.closed → LiesInClosed table old point → LiesInClosed table new point
same_closings_hold table old new point closed lies = subst (λ (c : Closings). LiesInClosed table (record new { closed = c }) point) (sym closed) lies

-- a move that is due after a change was due before it, where routes, the point and the detectors are the same
pub move_before : (table : Table) (old new : IxlState) (number : ℕ) (route : RouteState) (need : Need) → (IsHeldWithAuthority table old need.point → IsHeldWithAuthority table new need.point) → new.detectors ≡ old.detectors → new.closed ≡ old.closed
    → slice_get new.known_points need.point ≡ slice_get old.known_points need.point → MoveDue table new number route need → MoveDue table old number route need
move_before table old new number route need held detectors closed point due = record {
  waits = due.waits;
  goes_on = due.goes_on;
  available = (due.available.0, sym point ∙ due.available.1, due.available.2);
  elsewhere = λ known. due.elsewhere (known.0, point ∙ known.1, known.2);
  over_clear = (due.over_clear.0, due.over_clear.1, subst (λ (ds : List KnownDetectorState). IsClear table (record new { detectors = ds }) due.over_clear.0) detectors due.over_clear.2);
  unheld = λ is. due.unheld (held is);
  once = (due.once.0, sym point ∙ due.once.1, due.once.2);
  unclosed = λ lies. due.unclosed (same_closings_hold table old new need.point closed lies);
}

pub same_routes_hold : (table : Table) (old new : IxlState) (point : ℕ) → new.routes ≡ old.routes → IsHeldWithAuthority table old point → IsHeldWithAuthority table new point
same_routes_hold table old new point routes held = subst (λ (rs : List RouteState). IsHeldWithAuthority table (record new { routes = rs }) point) (sym routes) held

abbrev pub NoMove : Table → ℕ → Need → IxlState → Type 0
NoMove table number need ixl = (row : Row) (route : RouteState) → IsRouteOf table ixl number row route → MoveDue table ixl number route need → ⊥

-- that the rule gives a move where it is due
waits_without : (p : Phase) → is_waiting p ≡ true → IsTrue (was_authorised p) → ⊥
waits_without Phase.Free waits authority = false≢true waits
waits_without Phase.Waiting waits authority = false≢true authority
waits_without Phase.Proceeding waits authority = false≢true waits
waits_without Phase.Withdrawn waits authority = false≢true waits
waits_without (Phase.Ended clock done) waits authority = false≢true waits

module _ (now : ℕ) (table : Table) where
  -- ---- any move

  after_move : (number : ℕ) (need : Need) (point : ℕ) (side : Side) (part : StepSoFar) → NoMove table number need part.ixl → NoMove table number need (giving_move now point side part).ixl
  after_move number need point side part is row route there due = decide (need.point == point) refl
    where
      leaves : MoveLeaves point part.ixl (giving_move now point side part).ixl
      leaves = move_leaves now point side part

      decide : (b : Bool) → (need.point == point) ≡ b → ⊥
      decide true e = moved_point now point side part (subst (λ (p : ℕ). IsAvailable (giving_move now point side part).ixl p) (is_equal need.point point e) due.available)
      decide false e = is row route (there.0, ap (λ (routes : List RouteState). slice_get routes number) (sym leaves.routes) ∙ there.1)
          (move_before table part.ixl (giving_move now point side part).ixl number route need (same_routes_hold table part.ixl (giving_move now point side part).ixl need.point leaves.routes) leaves.detectors leaves.closed (leaves.points need.point (differs need.point point e)) due)

  another_move : (k : ℕ) (need : Need) (number : ℕ) (other : Need) (part : StepSoFar) → NoMove table k need part.ixl → NoMove table k need (moving_one now table number other part).ixl
  unfolding moving_one
  another_move k need number other part is = route_keeps Q table number _ part (λ row route there here. where_keeps Q (is_move_due table part.ixl number route other) part _ (λ due. after_move k need other.point other.side part is) is) is
    where
      Q : StepSoFar → Type 0
      Q q = NoMove table k need q.ixl

  another_turn : (k : ℕ) (need : Need) (number : ℕ) (part : StepSoFar) → NoMove table k need part.ixl → NoMove table k need (moving now table number part).ixl
  unfolding moving
  another_turn k need number part is = route_keeps Q table number _ part (λ row route there here. along_keeps Q (moving_one now table number) (another_move k need number) row.needs part is) is
    where
      Q : StepSoFar → Type 0
      Q q = NoMove table k need q.ixl

  -- ---- the last rule

  held_still : (number : ℕ) (change : RouteState → RouteState) (point : ℕ) (route : RouteState) (old new : IxlState) → slice_get old.routes number ≡ Some route → is_waiting route.phase ≡ true → new.routes ≡ changed change number old.routes
      → IsHeldWithAuthority table old point → IsHeldWithAuthority table new point
  held_still number change point route old new here waits are held = decide (held.0 == number) refl
    where
      decide : (b : Bool) → (held.0 == number) ≡ b → IsHeldWithAuthority table new point
      decide true e = absurd (waits_without held.2.phase
          (ap (λ (r : RouteState). is_waiting r.phase) (same_Some held.2 route (sym held.4.1 ∙ (ap (slice_get old.routes) (is_equal held.0 number e) ∙ here))) ∙ waits) held.5)
      decide false e = (
        held.0,
        held.1,
        held.2,
        held.3,
        (held.4.0, ap (λ (routes : List RouteState). slice_get routes held.0) are ∙ (changed_elsewhere change number held.0 old.routes (differs held.0 number e) ∙ held.4.1)),
        held.5,
        held.6,
      )

  after_proceeding : (k : ℕ) (need : Need) (number : ℕ) (part : StepSoFar) → NoMove table k need part.ixl → NoMove table k need (proceeding now table number part).ixl
  unfolding proceeding
  after_proceeding k need number part is = route_keeps Q table number _ part (λ row route there here. where_keeps Q (is_proceed_due now table part.ixl row route) part _
      (λ due. with_authority row route here (is_waiting_there now table part.ixl row route due)) is) is
    where
      Q : StepSoFar → Type 0
      Q q = NoMove table k need q.ixl

      with_authority : (row : Row) (route : RouteState) → slice_get part.ixl.routes number ≡ Some route → is_waiting route.phase ≡ true
          → NoMove table k need (giving_aspect now row.entry row.aspect (with_route number (authorised table part.ixl row) part)).ixl
      with_authority row route here waits other later other_is due = choose (changed_at (authorised table part.ixl row) number part.ixl.routes k later (sym (ap (λ (routes : List RouteState). slice_get routes k) leaves.routes) ∙ other_is.1))
        where
          given : StepSoFar
          given = giving_aspect now row.entry row.aspect (with_route number (authorised table part.ixl row) part)

          leaves : AspectLeaves row.entry (with_route number (authorised table part.ixl row) part).ixl given.ixl
          leaves = aspect_leaves now row.entry row.aspect (with_route number (authorised table part.ixl row) part)

          choose : ((k ≡ number) × (was : RouteState) × (slice_get part.ixl.routes number ≡ Some was) × (later ≡ authorised table part.ixl row was)) ⊎ (slice_get part.ixl.routes k ≡ Some later) → ⊥
          choose (inl (same, was, f, so)) = cc (sym due.waits ∙ ap (λ (r : RouteState). r.phase) so)
          choose (inr f) = is other later (other_is.0, f) (move_before table part.ixl given.ixl k later need (held_still number (authorised table part.ixl row) need.point route part.ixl given.ixl here waits leaves.routes)
              leaves.detectors leaves.closed (ap (λ (points : List KnownPointState). slice_get points need.point) leaves.points) due)

  -- ---- the fifth rule

  module _ (law : MoveLaw) where
    none_there : (number : ℕ) (need : Need) (part : StepSoFar) → slice_get part.ixl.routes number ≡ None → moving_one now table number need part ≡ part
    unfolding moving_one
    none_there number need part none = no_route table number _ part none

    own_move : (number : ℕ) (need : Need) (part : StepSoFar) → NoMove table number need (moving_one now table number need part).ixl
    own_move number need part row route is due = by_found (slice_get part.ixl.routes number) refl
      where
        at_number : StepSoFar → Option RouteState
        at_number q = slice_get q.ixl.routes number

        given_then : moving_one now table number need part ≡ giving_move now need.point need.side part → ⊥
        given_then given = moved_point now need.point need.side part (subst (λ (q : StepSoFar). IsAvailable q.ixl need.point) given due.available)

        by_found : (found : Option RouteState) → slice_get part.ixl.routes number ≡ found → ⊥
        by_found None e = none-some route (sym (ap at_number (none_there number need part e) ∙ e) ∙ is.1)
        by_found (Some was) e =
            let does = law now table number need part row was (is.0, e)
            in let same : moving_one now table number need part ≡ part = does.otherwise (λ was_due. given_then (does.due was_due))
            in let still : route ≡ was = same_Some route was (sym is.1 ∙ (ap at_number same ∙ e))
            in given_then (does.due (subst (λ (r : RouteState). MoveDue table part.ixl number r need) still (subst (λ (q : StepSoFar). MoveDue table q.ixl number route need) same due)))

    along_all : (number : ℕ) (needs : List Need) (part : StepSoFar) → All (λ (need : Need). NoMove table number need (along (moving_one now table number) needs part).ixl) needs
    along_all number [] part = All-nil _
    along_all number (first ∷ others) part = All-cons (λ (need : Need). NoMove table number need (along (moving_one now table number) others (moving_one now table number first part)).ixl) first others
        (along_keeps (λ (q : StepSoFar). NoMove table number first q.ixl) (moving_one now table number) (another_move number first number) others (moving_one now table number first part) (own_move number first part))
        (along_all number others (moving_one now table number first part))

    moving_none : (number : ℕ) (part : StepSoFar) → slice_get part.ixl.routes number ≡ None → moving now table number part ≡ part
    unfolding moving
    moving_none number part none = no_route table number _ part none

    moving_all : (number : ℕ) (part : StepSoFar) (row : Row) (route : RouteState) → slice_get table.rows number ≡ Some row → slice_get part.ixl.routes number ≡ Some route → moving now table number part ≡ along (moving_one now table number) row.needs part
    unfolding moving
    moving_all number part row route there here = at_one table number _ part row route there here

    own_turn : (number : ℕ) (part : StepSoFar) (row : Row) → slice_get table.rows number ≡ Some row → All (λ (need : Need). NoMove table number need (moving now table number part).ixl) row.needs
    own_turn number part row there = by_found (slice_get part.ixl.routes number) refl
      where
        by_found : (found : Option RouteState) → slice_get part.ixl.routes number ≡ found → All (λ (need : Need). NoMove table number need (moving now table number part).ixl) row.needs
        by_found None e = λ place other within. λ one route is due. none-some route (sym (ap (λ (q : StepSoFar). slice_get q.ixl.routes number) (moving_none number part e) ∙ e) ∙ is.1)
        by_found (Some route) e = subst (λ (q : StepSoFar). All (λ (need : Need). NoMove table number need q.ixl) row.needs) (sym (moving_all number part row route there e)) (along_all number row.needs part)

    -- after the turns of so many routes
    abbrev Behind : ℕ → StepSoFar → Type 0
    Behind n part = (number : ℕ) → number < n → (row : Row) → slice_get table.rows number ≡ Some row → All (λ (need : Need). NoMove table number need part.ixl) row.needs

    one_more : (n : ℕ) (part : StepSoFar) → Behind n part → Behind (suc n) (moving now table n part)
    one_more n part is number few row there = decide (number == n) refl
      where
        decide : (b : Bool) → (number == n) ≡ b → All (λ (need : Need). NoMove table number need (moving now table n part).ixl) row.needs
        decide true e = subst (λ (m : ℕ). All (λ (need : Need). NoMove table m need (moving now table n part).ixl) row.needs) (sym (is_equal number n e)) (own_turn n part row (ap (slice_get table.rows) (sym (is_equal number n e)) ∙ there))
        decide false e = λ place other within. another_turn number _ n part (is number fewer row there place other within)
          where
            fewer : number < n
            fewer = grind (arith, nat_tests, e, few)

    none_behind : (part : StepSoFar) (number : ℕ) (row : Row) (need : Need) → slice_get table.rows number ≡ Some row → Contains row.needs need → NoMove table number need (ruled now table part).ixl
    none_behind part number row need there within =
        over_keeps (λ (q : StepSoFar). NoMove table number need q.ixl) (proceeding now table) (after_proceeding number need) (count table) (moved now table part)
        (All-contains (λ (one : Need). NoMove table number one (moved now table part).ixl) row.needs need
        (each_over Behind (moving now table) one_more (count table) (freed_by_cancel now table part) (λ k few. absurd (omega (arith, few))) number (within_some table.rows number row there) row there) within)

-- ---- each step, and every list of events

due_before : (table : Table) (old new : IxlState) (number : ℕ) (route : RouteState) (need : Need) → BringsNothing old new → MoveDue table new number route need → MoveDue table old number route need
due_before table old new number route need brings due = record {
  waits = due.waits;
  goes_on = due.goes_on;
  available = available_before table old new brings need.point due.available;
  elsewhere = λ known. due.elsewhere (known_still table old new brings need.point need.side due.available.0 due.available.1 (available_inside due.available.0.client.stage due.available.2) known);
  over_clear = (due.over_clear.0, due.over_clear.1, clear_before table old new brings due.over_clear.0 due.over_clear.2);
  unheld = λ held. due.unheld (same_routes_hold table old new need.point brings.routes held);
  once = (was.was, was.there, ap (λ (places : Places). contains places number) (sym stands.moved) ∙ due.once.2);
  unclosed = λ lies. due.unclosed (same_closings_hold table old new need.point brings.closed lies);
}
  where
    was : PointWas old.known_points need.point due.once.0
    was = brings.points need.point due.once.0 due.once.1

    stands : PointStands was.was due.once.0
    stands = was.stands (ap (λ (k : KnownPointState). is_outside k.client.stage) (same_Some due.once.0 due.available.0 (sym due.once.1 ∙ due.available.1)) ∙ available_inside due.available.0.client.stage due.available.2)

abbrev NoneWaits : Table → IxlState → Type 0
NoneWaits table ixl = (number : ℕ) (row : Row) (need : Need) → slice_get table.rows number ≡ Some row → Contains row.needs need → NoMove table number need ixl

pub step_none : MoveLaw → (site : Site) (table : Table) (input : Input) (world : WorldState) (number : ℕ) (row : Row) (need : Need) → slice_get table.rows number ≡ Some row → Contains row.needs need
    → NoMove table number need (interlocking_stepped site table input world).interlocking.ixl
unfolding interlocking_stepped stepped
step_none law site table input world number row need there within one route is due =
    none_behind now table law seen number row need there within one route (is.0, ap (λ (routes : List RouteState). slice_get routes number) (sym brings.routes) ∙ is.1) (due_before table (ruled now table seen).ixl _ number route need brings due)
  where
    now : ℕ
    now = reading_of world.interlocking.clock

    begins : StepSoFar
    begins = begun_with world.interlocking.ixl empty_outbox

    seen : StepSoFar
    seen = over (watching table) (count table) (given now table (key_of site) input (record begins { ixl = all_clocked now begins.ixl }))

    brings : BringsNothing (ruled now table seen).ixl (ticked now input (ruled now table seen)).ixl
    brings = ticks_bring_nothing now input (ruled now table seen)

new_waits : (site : Site) (table : Table) (begins : Beginning) → NoneWaits table (new_ixl site table begins)
unfolding new_ixl
new_waits site table begins number row need there within one route is due = let found = mapped_at new_route_of table.rows number route is.1 in cc (sym (ap (λ (r : RouteState). r.phase) found.2) ∙ due.waits)

pub nothing_moves : MoveLaw → (site : Site) (table : Table) (world : WorldState) (number : ℕ) (row : Row) (route : RouteState) (need : Need) → IsReached site table world → IsRouteOf table world.interlocking.ixl number row route → Contains row.needs need
    → MoveDue table world.interlocking.ixl number route need → ⊥
nothing_moves law site table world number row route need reached is within due = always_whole site table (NoneWaits table) (new_waits site table) (λ input world before. step_none law site table input world) world reached number row need is.0 within row route is due
