-- The six rules of a step. Each is for all routes in table order, and then the next. What a rule does for one route
-- stands here by itself, and the state after each rule has a name.
use Rattle.std.specs.Prelude.{ℕ, zero, suc, ◌==◌, nat_le, ◌&&◌, ◌||◌, not, Bool, true, false, [], length, Option, Some, None, if◌then◌else◌}
use Rattle.std.specs.FinSet.{contains}
use Rattle.closings.specs.sci_telegram.declared.message.Aspect.TheVariants as aspects
use Rattle.release.specs.Approach.{approach_end, is_due}
use Rattle.release.specs.Passage.{PassageState, is_freeable, passage_after}
use Rattle.ixl_spec.specs.Table.{Need, Row, Table, at}
use Rattle.ixl_spec.specs.State.{IxlState, RouteState}
use Rattle.ixl_spec.specs.View.{all_clear, all_known, is_approach_clear, is_at_known_stop, is_clear, is_held_with_authority, is_known, is_point_available, is_signal_ready}
use Rattle.ixl_spec.specs.Operations.{lies_in_closed}
use Rattle.ixl_spec.specs.StepSoFar.{StepSoFar, along, at_route, giving_aspect, giving_move, over, with_route}
use Rattle.ixl_spec.specs.declared.phase.Phase.{Phase}
use Rattle.ixl_spec.specs.declared.phase.Phase.TheVariants as phase

abbrev pub is_waiting : Phase → Bool
is_waiting phase.Waiting = true
is_waiting _ = false

abbrev pub is_proceeding : Phase → Bool
is_proceeding phase.Proceeding = true
is_proceeding _ = false

abbrev pub is_withdrawn : Phase → Bool
is_withdrawn phase.Withdrawn = true
is_withdrawn _ = false

abbrev pub come_to : Phase → RouteState → RouteState
come_to phase route = record route { phase = phase }

-- it isn't set any longer
abbrev pub freed : RouteState → RouteState
freed route = record route { phase = phase.Free; cancelled = false }

-- ---- 1: a route is withdrawn, and its signal is given stop

-- its aspect was given, and what it rests on holds no longer: a point, a section, the signal's link, or the will of the
-- operator
abbrev pub is_stop_due : Table → IxlState → Row → RouteState → Bool
is_stop_due table ixl row route =
    is_proceeding route.phase
    && (route.cancelled || not (all_known ixl row.needs) || not (all_clear table ixl row.sections) || not (is_signal_ready ixl row.entry))

-- where the signal's link isn't ready no stop is given, then or later
abbrev pub stopped : ℕ → Row → StepSoFar → StepSoFar
stopped now row part = if is_signal_ready part.ixl row.entry then giving_aspect now row.entry aspects.Stop part else part

unfoldable pub withdrawing : ℕ → Table → ℕ → StepSoFar → StepSoFar
withdrawing now table number = at_route table number (λ row route part.
    if is_stop_due table part.ixl row route then stopped now row (with_route number (come_to phase.Withdrawn) part) else part)

-- ---- 2: the authority of a withdrawn route ends once its signal is known to show stop

unfoldable pub ending_authority : ℕ → Table → ℕ → StepSoFar → StepSoFar
ending_authority now table number = at_route table number (λ row route part.
    if is_withdrawn route.phase && is_at_known_stop now part.ixl row.entry
    then with_route number (come_to (phase.Ended now 0)) part
    else part)

-- ---- 3: the passage of a train frees the sections, one after another

-- the next section of a route of which so many are freed
abbrev pub frees_next : Table → IxlState → Row → RouteState → Phase → Bool
frees_next table ixl row route (phase.Ended clock done) = is_freeable route.passage done true && at row.sections done (is_clear table ixl)
frees_next table ixl row route _ = false

-- with the last section the route is free
abbrev pub one_freed : Row → Phase → RouteState → RouteState
one_freed row (phase.Ended clock done) route =
    if suc done == length row.sections then freed route else come_to (phase.Ended clock (suc done)) route
one_freed row _ route = route

unfoldable pub freeing_next : Table → ℕ → StepSoFar → StepSoFar
freeing_next table number = at_route table number (λ row route part.
    if frees_next table part.ixl row route route.phase then with_route number (one_freed row route.phase) part else part)

-- so often as there are sections: until nothing more is freed
abbrev pub repeated : ℕ → (StepSoFar → StepSoFar) → StepSoFar → StepSoFar
repeated zero does part = part
repeated (suc more) does part = repeated more does (does part)

unfoldable pub freeing_by_passage : Table → ℕ → StepSoFar → StepSoFar
freeing_by_passage table number = at_route table number (λ row route. repeated (length row.sections) (freeing_next table number))

-- ---- 4: a cancelled route is freed

-- no section of the route was reported occupied since authority was given
abbrev pub none_seen : ℕ → PassageState → Bool
none_seen zero passage = true
none_seen (suc place) passage = not (contains passage.seen place) && none_seen place passage

-- the approach time is over since a route was released
abbrev pub is_release_over : ℕ → Option ℕ → Bool
is_release_over now None = false
is_release_over now (Some clock) = nat_le (approach_end clock) now

-- without authority in this setting at known stop; else once authority has ended, where no train came and the approach
-- lets it go, or where its release is over, whatever was reported of its sections
abbrev pub frees_cancelled : ℕ → Table → IxlState → Row → RouteState → Phase → Bool
frees_cancelled now table ixl row route phase.Waiting = is_at_known_stop now ixl row.entry
frees_cancelled now table ixl row route (phase.Ended clock done) =
    (none_seen (length row.sections) route.passage && all_clear table ixl row.sections && is_due route.approached clock now)
    || is_release_over now route.released
frees_cancelled now table ixl row route _ = false

unfoldable pub freeing_by_cancel : ℕ → Table → ℕ → StepSoFar → StepSoFar
freeing_by_cancel now table number = at_route table number (λ row route part.
    if route.cancelled && frees_cancelled now table part.ixl row route route.phase then with_route number freed part else part)

-- ---- 5: the points of a route are moved

-- the point lies in a section that is clear
abbrev pub is_over_clear : Table → IxlState → ℕ → Bool
is_over_clear table ixl point = at table.point_sections point (is_clear table ixl)

-- no move was given to the point in its present connection since the route was set
abbrev pub is_unmoved : IxlState → ℕ → ℕ → Bool
is_unmoved ixl point number = at ixl.known_points point (λ known_point. not (contains known_point.moved number))

abbrev pub is_move_due : Table → IxlState → ℕ → RouteState → Need → Bool
is_move_due table ixl number route need =
    is_waiting route.phase && not route.cancelled
    && is_point_available ixl need.point && not (is_known ixl need.point need.side)
    && is_over_clear table ixl need.point && not (is_held_with_authority table ixl need.point) && is_unmoved ixl need.point number
    && not (lies_in_closed table ixl need.point)

unfoldable pub moving_one : ℕ → Table → ℕ → Need → StepSoFar → StepSoFar
moving_one now table number need = at_route table number (λ row route part.
    if is_move_due table part.ixl number route need then giving_move now need.point need.side part else part)

unfoldable pub moving : ℕ → Table → ℕ → StepSoFar → StepSoFar
moving now table number = at_route table number (λ row route. along (moving_one now table number) row.needs)

-- ---- 6: a route is given authority, and its signal the route's aspect

abbrev pub is_proceed_due : ℕ → Table → IxlState → Row → RouteState → Bool
is_proceed_due now table ixl row route =
    is_waiting route.phase && not route.cancelled
    && all_known ixl row.needs && all_clear table ixl row.sections
    && is_signal_ready ixl row.entry && is_at_known_stop now ixl row.entry

-- from here on the passage and the approach are watched
abbrev pub authorised : Table → IxlState → Row → RouteState → RouteState
authorised table ixl row route = record route {
  phase = phase.Proceeding;
  passage = passage_after (length row.sections) [];
  approached = not (is_approach_clear table ixl row);
}

unfoldable pub proceeding : ℕ → Table → ℕ → StepSoFar → StepSoFar
proceeding now table number = at_route table number (λ row route part.
    if is_proceed_due now table part.ixl row route
    then giving_aspect now row.entry row.aspect (with_route number (authorised table part.ixl row) part)
    else part)

-- ---- one rule after another, each for all routes

abbrev pub count : Table → ℕ
count table = length table.rows

abbrev pub withdrawn : ℕ → Table → StepSoFar → StepSoFar
withdrawn now table = over (withdrawing now table) (count table)

abbrev pub ended : ℕ → Table → StepSoFar → StepSoFar
ended now table part = over (ending_authority now table) (count table) (withdrawn now table part)

abbrev pub freed_by_passage : ℕ → Table → StepSoFar → StepSoFar
freed_by_passage now table part = over (freeing_by_passage table) (count table) (ended now table part)

abbrev pub freed_by_cancel : ℕ → Table → StepSoFar → StepSoFar
freed_by_cancel now table part = over (freeing_by_cancel now table) (count table) (freed_by_passage now table part)

abbrev pub moved : ℕ → Table → StepSoFar → StepSoFar
moved now table part = over (moving now table) (count table) (freed_by_cancel now table part)

abbrev pub ruled : ℕ → Table → StepSoFar → StepSoFar
ruled now table part = over (proceeding now table) (count table) (moved now table part)
