-- Commands, and why they are refused: the first test that fails, in their order.
use Rattle.std.specs.Prelude.{ℕ, ◌&&◌, ◌||◌, not, Bool, true, false, List, [], ◌∷◌, map, Option, Some, None, slice_get, if◌then◌else◌}
use Rattle.std.specs.FinSet.{remove}
use Rattle.std.specs.List.{list_all}
use Rattle.std.specs.Option.{option_or}
use Rattle.closings.specs.sci_telegram.declared.message.Side.{Side}
use Rattle.closings.specs.layout.declared.ids.PointId.{PointId}
use Rattle.closings.specs.declared.thing.Thing.TheVariants.{Point}
use Rattle.closings.specs.declared.thing.Named.{Named}
use Rattle.closings.specs.Closed.{is_closed, with_named, without_named}
use Rattle.ixl_spec.specs.Table.{Need, Row, Table}
use Rattle.ixl_spec.specs.State.{IxlState, RouteState, KnownPointState, changed}
use Rattle.ixl_spec.specs.View.{first_blocking, is_at_known_stop, is_held_at, is_holding, is_occupied, is_point_available, is_set, is_signal_ready, is_unknown}
use Rattle.ixl_spec.specs.StepSoFar.{StepSoFar, giving_move}
use Rattle.ixl_spec.specs.Operations.{counts_as_closed, first_holding, first_keeping_open, has_named, has_thing, lies_in_closed, things_used}
use Rattle.ixl_spec.specs.declared.command.Command.{Command}
use Rattle.ixl_spec.specs.declared.command.Command.TheVariants as commands
use Rattle.ixl_spec.specs.declared.command.Refusal.{Refusal}
use Rattle.ixl_spec.specs.declared.command.Refusal.TheVariants as refusals
use Rattle.ixl_spec.specs.declared.phase.Phase.{Phase}
use Rattle.ixl_spec.specs.declared.phase.Phase.TheVariants as phase

abbrev pub refusal_number : Refusal → ℕ
refusal_number refusals.UnknownRoute = 1
refusal_number refusals.Holding = 2
refusal_number refusals.NotResumed = 3
refusal_number refusals.AlreadySet = 4
refusal_number (refusals.Conflict route) = 5
refusal_number (refusals.NotClear section) = 6
refusal_number (refusals.PointUnavailable point) = 7
refusal_number refusals.SignalUnavailable = 8
refusal_number refusals.NotSet = 9
refusal_number refusals.DetectionDown = 10
refusal_number refusals.NoSuchThing = 11
refusal_number refusals.NotEnded = 12
refusal_number (refusals.Closed thing) = 13
refusal_number (refusals.Held route) = 14

-- the first of a list that fails a test, told as a refusal; else what follows
abbrev pub first_failing : {A : Type 0} → (A → Bool) → (A → Refusal) → List A → Option Refusal → Option Refusal
first_failing fails told [] otherwise = otherwise
first_failing fails told (first ∷ others) otherwise =
    if fails first then Some (told first) else first_failing fails told others otherwise

-- a refusal where a test fails; else what follows
abbrev pub refused_where : Bool → Refusal → Option Refusal → Option Refusal
refused_where fails told otherwise = if fails then Some told else otherwise

abbrev pub conflict_told : Option ℕ → Option Refusal → Option Refusal
conflict_told None otherwise = otherwise
conflict_told (Some blocking) otherwise = Some (refusals.Conflict (record { 0 = blocking }))

abbrev pub held_told : Option ℕ → Option Refusal → Option Refusal
held_told None otherwise = otherwise
held_told (Some holder) otherwise = Some (refusals.Held (record { 0 = holder }))

-- a required point that isn't available, and isn't held at its side
abbrev pub is_point_wanting : Table → IxlState → Need → Bool
is_point_wanting table ixl need = not (is_point_available ixl need.point) && not (is_held_at table ixl need.point need.side)

-- of a request past the first four tests
unfoldable pub locking_refusal : ℕ → Table → IxlState → ℕ → Row → Option Refusal
locking_refusal now table ixl number row =
    conflict_told (first_blocking number row 0 table.rows ixl.routes)
    (first_failing (is_occupied table ixl) (λ section. refusals.NotClear (record { 0 = section })) row.sections
    (first_failing (is_point_wanting table ixl) (λ need. refusals.PointUnavailable (record { 0 = need.point })) row.needs
    (refused_where (not (is_signal_ready ixl row.entry) || not (is_at_known_stop now ixl row.entry)) refusals.SignalUnavailable
    (refused_where (not (list_all (λ section. not (is_unknown table ixl section)) row.sections)) refusals.DetectionDown None))))

-- of a request, at last: the first closed thing of those that the route would use
unfoldable pub closed_refusal : Table → IxlState → ℕ → Row → Option Refusal
closed_refusal table ixl number row = first_failing (counts_as_closed table ixl) refusals.Closed (things_used number row) None

-- of a request
abbrev pub request_refusal : ℕ → Table → IxlState → ℕ → Option Row → Option RouteState → Option Refusal
request_refusal now table ixl number (Some row) (Some route) =
    refused_where (is_holding now ixl) refusals.Holding
    (refused_where (not ixl.resumed) refusals.NotResumed
    (refused_where (is_set route.phase) refusals.AlreadySet
    (option_or (locking_refusal now table ixl number row) (closed_refusal table ixl number row))))
request_refusal now table ixl number _ _ = Some refusals.UnknownRoute

-- of a cancel
abbrev pub cancel_refusal : ℕ → IxlState → Option RouteState → Option Refusal
cancel_refusal now ixl (Some route) =
    refused_where (is_holding now ixl) refusals.Holding
    (refused_where (not ixl.resumed) refusals.NotResumed
    (refused_where (not (is_set route.phase)) refusals.NotSet None))
cancel_refusal now ixl None = Some refusals.UnknownRoute

-- its authority was given in this setting, and is ended
abbrev pub is_ended : Phase → Bool
is_ended (phase.Ended clock freed) = true
is_ended _ = false

-- of a release
abbrev pub release_refusal : ℕ → IxlState → Option RouteState → Option Refusal
release_refusal now ixl (Some route) =
    refused_where (is_holding now ixl) refusals.Holding
    (refused_where (not ixl.resumed) refusals.NotResumed
    (refused_where (not (is_set route.phase)) refusals.NotSet
    (refused_where (not (route.cancelled && is_ended route.phase)) refusals.NotEnded None)))
release_refusal now ixl None = Some refusals.UnknownRoute

-- of a move, by the section in which the point lies: it is occupied, or unknown
abbrev pub section_refusal : Table → IxlState → Option ℕ → Option Refusal
section_refusal table ixl (Some section) =
    refused_where (is_occupied table ixl section) (refusals.NotClear (record { 0 = section }))
    (refused_where (is_unknown table ixl section) refusals.DetectionDown None)
section_refusal table ixl None = None

-- in a closed section a person's word moves the point, whatever is reported there
abbrev pub own_section_refusal : Table → IxlState → ℕ → Option Refusal
own_section_refusal table ixl point =
    if lies_in_closed table ixl point then None else section_refusal table ixl (slice_get table.point_sections point)

-- of a move past the first three tests
unfoldable pub moving_refusal : Table → IxlState → PointId → Side → Option Refusal
moving_refusal table ixl point side =
    refused_where (is_closed ixl.closed (Point point side)) (refusals.Closed (Point point side))
    (held_told (first_holding table ixl point.0)
    (refused_where (not (is_point_available ixl point.0)) (refusals.PointUnavailable point)
    (own_section_refusal table ixl point.0)))

-- of a move
abbrev pub move_refusal : ℕ → Table → IxlState → PointId → Side → Option Refusal
move_refusal now table ixl point side =
    refused_where (not (has_thing table ixl (Point point side))) refusals.NoSuchThing
    (refused_where (is_holding now ixl) refusals.Holding
    (refused_where (not ixl.resumed) refusals.NotResumed
    (moving_refusal table ixl point side)))

-- of a close, and of an open: also in the hold, and before it is told to resume
abbrev pub close_refusal : Table → IxlState → Named → Option Refusal
close_refusal table ixl named =
    refused_where (not (has_named table ixl named)) refusals.NoSuchThing (held_told (first_keeping_open table ixl named) None)

abbrev pub open_refusal : Table → IxlState → Named → Option Refusal
open_refusal table ixl named = refused_where (not (has_named table ixl named)) refusals.NoSuchThing None

unfoldable pub refusal : ℕ → Table → Command → IxlState → Option Refusal
refusal now table (commands.Request route) ixl =
    request_refusal now table ixl route.0 (slice_get table.rows route.0) (slice_get ixl.routes route.0)
refusal now table (commands.Cancel route) ixl = cancel_refusal now ixl (slice_get ixl.routes route.0)
refusal now table commands.Resume ixl = refused_where (is_holding now ixl) refusals.Holding None
refusal now table (commands.Release route) ixl = release_refusal now ixl (slice_get ixl.routes route.0)
refusal now table (commands.Move point side) ixl = move_refusal now table ixl point side
refusal now table (commands.Close named) ixl = close_refusal table ixl named
refusal now table (commands.Open named) ixl = open_refusal table ixl named

-- what a command that isn't refused does

-- in each setting a route isn't released at first
abbrev pub set_anew : RouteState → RouteState
set_anew route = record route { phase = phase.Waiting; cancelled = false; released = None }

-- a route is set: from here on each point counts as unmoved for it
abbrev pub unmoved_for : ℕ → KnownPointState → KnownPointState
unmoved_for number known_point = record known_point { moved = remove known_point.moved number }

abbrev pub route_set : ℕ → IxlState → IxlState
route_set number ixl = record ixl {
  routes = changed set_anew number ixl.routes;
  known_points = map (unmoved_for number) ixl.known_points;
}

-- the first release of a setting is noted with its clock
abbrev pub released_at : ℕ → RouteState → RouteState
released_at now route = record route { released = option_or route.released (Some now) }

-- what is kept after it; a move is given to its point, and changes nothing else
unfoldable pub obeyed : ℕ → Command → IxlState → IxlState
obeyed now (commands.Request route) ixl = route_set route.0 ixl
obeyed now (commands.Cancel route) ixl = record ixl { routes = changed (λ old. record old { cancelled = true }) route.0 ixl.routes }
obeyed now commands.Resume ixl = record ixl { resumed = true }
obeyed now (commands.Release route) ixl = record ixl { routes = changed (released_at now) route.0 ixl.routes }
obeyed now (commands.Move point side) ixl = ixl
obeyed now (commands.Close named) ixl = record ixl { closed = with_named ixl.closed named }
obeyed now (commands.Open named) ixl = record ixl { closed = without_named ixl.closed named }

-- what is refused changes nothing
abbrev pub commanded_by : ℕ → Option Refusal → Command → IxlState → IxlState
commanded_by now None command ixl = obeyed now command ixl
commanded_by now (Some refusal) command ixl = ixl

-- a move that isn't refused is given at once
unfoldable pub moved_at_once : ℕ → Option Refusal → Command → StepSoFar → StepSoFar
moved_at_once now None (commands.Move point side) part = giving_move now point.0 side part
moved_at_once now _ _ part = part
