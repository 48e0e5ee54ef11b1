-- What an interlocking knows: of sections, points, signals and routes.
use Rattle.std.specs.Prelude.{ℕ, suc, ◌+◌, ◌==◌, nat_le, nat_lt, ◌&&◌, ◌||◌, not, Bool, true, false, List, [], ◌∷◌, length, drop, Option, Some, None, slice_get, if◌then◌else◌}
use Rattle.std.specs.FinSet.{contains}
use Rattle.std.specs.List.{list_all, list_any, position}
use Rattle.closings.specs.sci_telegram.declared.message.Aspect.{Aspect}
use Rattle.closings.specs.sci_telegram.declared.message.Aspect.TheVariants as aspects
use Rattle.closings.specs.sci_telegram.declared.message.Side.{Side}
use Rattle.rasta_core.specs.Clock.{quiet_until}
use Rattle.rasta_core.specs.Parameters.{stops_at_greatest}
use Rattle.rasta_core.specs.State.{confirmed_items, is_up}
use Rattle.ixl_client.specs.Client.{is_available, is_ready}
use Rattle.ixl_spec.specs.Table.{Need, Row, Table, at, is_same_side}
use Rattle.ixl_spec.specs.State.{KnownDetectorState, IxlState, KnownSignalState, RouteState}
use Rattle.ixl_spec.specs.declared.command.TheConstants.{HOLD_TIME}
use Rattle.ixl_spec.specs.declared.phase.Phase.{Phase}
use Rattle.ixl_spec.specs.declared.phase.Phase.TheVariants as phase

-- how long an interlocking holds after its creation, in ms of its clock
abbrev pub hold_time : ℕ
hold_time = HOLD_TIME

abbrev pub is_holding : ℕ → IxlState → Bool
is_holding now ixl = nat_lt now (stops_at_greatest (ixl.created + hold_time))

-- ---- sections

-- a test of the detector that reports a section, and of the section's place there
abbrev pub reported_by : Table → IxlState → ℕ → (KnownDetectorState → ℕ → Bool) → Bool
reported_by table ixl section test =
    at table.reporters section (λ reporter. at ixl.detectors reporter.0 (λ detector. test detector reporter.1))

-- its detector is ready, and last told it as clear
unfoldable pub is_clear : Table → IxlState → ℕ → Bool
is_clear table ixl section =
    reported_by table ixl section (λ detector place. is_ready detector.client.stage && not (contains detector.occupied place))

-- its detector is ready, and last told it as occupied
unfoldable pub is_occupied : Table → IxlState → ℕ → Bool
is_occupied table ixl section =
    reported_by table ixl section (λ detector place. is_ready detector.client.stage && contains detector.occupied place)

abbrev pub is_unknown : Table → IxlState → ℕ → Bool
is_unknown table ixl section = not (is_clear table ixl section) && not (is_occupied table ixl section)

abbrev pub all_clear : Table → IxlState → List ℕ → Bool
all_clear table ixl sections = list_all (is_clear table ixl) sections

-- the link to the detector is up
abbrev pub is_detector_up : IxlState → ℕ → Bool
is_detector_up ixl place = at ixl.detectors place (λ detector. is_up detector.client.link.phase)

-- the approach to a signal is known to be clear; of a route that names no approach section it isn't
abbrev pub is_approach_clear : Table → IxlState → Row → Bool
is_approach_clear table ixl row = not (length row.approach == 0) && all_clear table ixl row.approach

-- ---- points

-- its link is ready, and every move given in the present connection is answered
abbrev pub is_point_available : IxlState → ℕ → Bool
is_point_available ixl point = at ixl.known_points point (λ known_point. is_available known_point.client.stage)

abbrev pub is_side : Side → Option Side → Bool
is_side side None = false
is_side side (Some told) = is_same_side side told

-- the link to the point is ready, and it is up
abbrev pub is_point_ready : IxlState → ℕ → Bool
is_point_ready ixl point = at ixl.known_points point (λ known_point. is_ready known_point.client.stage)

abbrev pub is_point_up : IxlState → ℕ → Bool
is_point_up ixl point = at ixl.known_points point (λ known_point. is_up known_point.client.link.phase)

-- it is available, and its last report in the present connection told this side
unfoldable pub is_known : IxlState → ℕ → Side → Bool
is_known ixl point side = at ixl.known_points point (λ known_point. is_available known_point.client.stage && is_side side known_point.side)

abbrev pub all_known : IxlState → List Need → Bool
all_known ixl needs = list_all (λ need. is_known ixl need.point need.side) needs

-- ---- signals

abbrev pub is_signal_ready : IxlState → ℕ → Bool
is_signal_ready ixl signal = at ixl.known_signals signal (λ known_signal. is_ready known_signal.client.stage)

-- the link to the signal is up
abbrev pub is_signal_up : IxlState → ℕ → Bool
is_signal_up ixl signal = at ixl.known_signals signal (λ known_signal. is_up known_signal.client.link.phase)

-- whether the controller is known to have taken stop as the last aspect given, by the number of that item and of those
-- confirmed; or none was given
abbrev pub has_taken_stop : Option Aspect → ℕ → ℕ → Bool
has_taken_stop None number confirmed = true
has_taken_stop (Some aspects.Stop) number confirmed = nat_le number confirmed
has_taken_stop (Some _) number confirmed = false

-- the signal is at known stop: by what the controller has taken in the present connection, or since the link has been in
-- none for its quiet time
abbrev pub is_known_signal_at_stop : ℕ → KnownSignalState → Bool
is_known_signal_at_stop now known_signal =
    if is_up known_signal.client.link.phase then has_taken_stop known_signal.aspect known_signal.number (confirmed_items known_signal.client.link) else nat_le (quiet_until known_signal.client.link) now

unfoldable pub is_at_known_stop : ℕ → IxlState → ℕ → Bool
is_at_known_stop now ixl signal = at ixl.known_signals signal (is_known_signal_at_stop now)

-- the aspect that a signal's controller last indicated in the present connection; nothing where there is no such signal
abbrev pub indicated_by : Option KnownSignalState → Option Aspect
indicated_by None = None
indicated_by (Some known_signal) = known_signal.indicated

abbrev pub indicated : IxlState → ℕ → Option Aspect
indicated ixl signal = indicated_by (slice_get ixl.known_signals signal)

-- ---- routes

-- the place of a section in the path of a route
abbrev pub place_in : ℕ → List ℕ → Option ℕ
place_in section sections = position (λ other. other == section) sections

abbrev pub is_set : Phase → Bool
is_set phase.Free = false
is_set _ = true

-- authority was given in the present setting
abbrev pub was_authorised : Phase → Bool
was_authorised phase.Free = false
was_authorised phase.Waiting = false
was_authorised _ = true

-- how many of its sections are freed
abbrev pub freed_sections : Phase → ℕ
freed_sections (phase.Ended clock freed) = freed
freed_sections _ = 0

-- authority was given, and isn't ended
abbrev pub has_authority : Phase → Bool
has_authority phase.Proceeding = true
has_authority phase.Withdrawn = true
has_authority _ = false

-- the first route of the table, from this number on, that has authority from a signal
abbrev pub authority_from : ℕ → ℕ → List Row → List RouteState → Option ℕ
authority_from signal number [] routes = None
authority_from signal number (row ∷ rows) [] = None
authority_from signal number (row ∷ rows) (route ∷ routes) =
    if row.entry == signal && has_authority route.phase then Some number else authority_from signal (suc number) rows routes

-- a set route holds its sections from the first one that isn't freed on
abbrev pub holds_section : Row → Phase → ℕ → Bool
holds_section row phase section = is_set phase && list_any (λ other. other == section) (drop (freed_sections phase) row.sections)

-- and each point that it requires until so many are freed
abbrev pub holds_need : Phase → Need → Bool
holds_need phase need = is_set phase && nat_lt (freed_sections phase) need.until

abbrev pub holds_point : Row → Phase → ℕ → Bool
holds_point row phase point = list_any (λ need. need.point == point && holds_need phase need) row.needs

abbrev pub holds_point_at : Row → Phase → ℕ → Side → Bool
holds_point_at row phase point side = list_any (λ need. need.point == point && is_same_side need.side side && holds_need phase need) row.needs

abbrev pub holds_point_elsewhere : Row → Phase → Need → Bool
holds_point_elsewhere row phase wanted =
    list_any (λ need. need.point == wanted.point && not (is_same_side need.side wanted.side) && holds_need phase need) row.needs

-- a test of the row and the state of some route
abbrev pub some_route : (ℕ → Row → RouteState → Bool) → ℕ → List Row → List RouteState → Bool
some_route test number [] routes = false
some_route test number (row ∷ rows) [] = false
some_route test number (row ∷ rows) (route ∷ routes) = test number row route || some_route test (suc number) rows routes

-- a route blocks another: it is set, and has the same entry, is listed as an extra conflict, or holds a section of the
-- other, or a point at another side
abbrev pub blocks : ℕ → Row → ℕ → Row → RouteState → Bool
blocks wanted wanted_row number row route =
    not (number == wanted) && is_set route.phase
    && (row.entry == wanted_row.entry
    || list_any (λ other. other == wanted) row.extra || list_any (λ other. other == number) wanted_row.extra
    || list_any (holds_section row route.phase) wanted_row.sections
    || list_any (holds_point_elsewhere row route.phase) wanted_row.needs)

-- the first route of the table that blocks another
abbrev pub first_blocking : ℕ → Row → ℕ → List Row → List RouteState → Option ℕ
first_blocking wanted wanted_row number [] routes = None
first_blocking wanted wanted_row number (row ∷ rows) [] = None
first_blocking wanted wanted_row number (row ∷ rows) (route ∷ routes) =
    if blocks wanted wanted_row number row route then Some number else first_blocking wanted wanted_row (suc number) rows routes

-- some set route holds a point at this side
abbrev pub is_held_at : Table → IxlState → ℕ → Side → Bool
is_held_at table ixl point side = some_route (λ number row route. holds_point_at row route.phase point side) 0 table.rows ixl.routes

-- a route that was given authority in its present setting holds a point
abbrev pub is_held_with_authority : Table → IxlState → ℕ → Bool
is_held_with_authority table ixl point =
    some_route (λ number row route. was_authorised route.phase && holds_point row route.phase point) 0 table.rows ixl.routes
