-- What a route uses, and what stands against its use: things that are closed, and points in closed sections.
use Rattle.std.specs.Prelude.{ℕ, suc, ◌==◌, nat_lt, ◌&&◌, ◌||◌, not, Bool, false, List, [], ◌∷◌, ◌++◌, length, map, Option, Some, None, if◌then◌else◌}
use Rattle.std.specs.List.{list_any}
use Rattle.closings.specs.declared.thing.Thing.{Thing}
use Rattle.closings.specs.declared.thing.Thing.TheVariants.{Section, Point, Signal, Route}
use Rattle.closings.specs.declared.thing.Named.{Named}
use Rattle.closings.specs.declared.thing.Named.TheVariants.{One, BothSides}
use Rattle.closings.specs.Closed.{is_closed}
use Rattle.ixl_spec.specs.Table.{Need, Row, Table, at}
use Rattle.ixl_spec.specs.State.{IxlState, RouteState}
use Rattle.ixl_spec.specs.View.{holds_need, holds_point, holds_point_at, holds_section, is_known, is_set}

-- ---- things

-- what numbers name
abbrev pub section_thing : ℕ → Thing
section_thing section = Section (record { 0 = section })

abbrev pub signal_thing : ℕ → Thing
signal_thing signal = Signal (record { 0 = signal })

abbrev pub route_thing : ℕ → Thing
route_thing number = Route (record { 0 = number })

-- a point at the side at which it is required
abbrev pub need_thing : Need → Thing
need_thing need = Point (record { 0 = need.point }) need.side

-- the station has a thing
abbrev pub has_thing : Table → IxlState → Thing → Bool
has_thing table ixl (Section s) = nat_lt s.0 (length table.reporters)
has_thing table ixl (Point p side) = nat_lt p.0 (length table.point_sections)
has_thing table ixl (Signal s) = nat_lt s.0 (length ixl.known_signals)
has_thing table ixl (Route r) = nat_lt r.0 (length table.rows)

-- and what a command names
abbrev pub has_named : Table → IxlState → Named → Bool
has_named table ixl (One thing) = has_thing table ixl thing
has_named table ixl (BothSides p) = nat_lt p.0 (length table.point_sections)

-- ---- what a route uses

-- a set route uses itself, its entry signal, each of its sections that isn't freed, and each point that it holds, at the
-- side at which it holds it
abbrev pub uses : ℕ → Row → RouteState → Thing → Bool
uses number row route (Section s) = holds_section row route.phase s.0
uses number row route (Point p side) = holds_point_at row route.phase p.0 side
uses number row route (Signal s) = is_set route.phase && row.entry == s.0
uses number row route (Route r) = is_set route.phase && number == r.0

-- it uses what a command names: of a point at both sides one of them
abbrev pub uses_named : ℕ → Row → RouteState → Named → Bool
uses_named number row route (One thing) = uses number row route thing
uses_named number row route (BothSides p) = holds_point row route.phase p.0

-- the things that a route uses once it is set: the route, its entry signal, its sections in path order, and its required
-- points in layout order at the required side
abbrev pub things_used : ℕ → Row → List Thing
things_used number row = route_thing number ∷ signal_thing row.entry ∷ (map section_thing row.sections ++ map need_thing row.needs)

-- ---- points in closed sections

-- a point lies in a section
abbrev pub lies_in : Table → ℕ → ℕ → Bool
lies_in table section point = at table.point_sections point (λ own. own == section)

-- a point lies in a section that is closed: people work there, and no rule moves it
unfoldable pub lies_in_closed : Table → IxlState → ℕ → Bool
lies_in_closed table ixl point = at table.point_sections point (λ section. is_closed ixl.closed (section_thing section))

-- a thing counts as closed for a route that is to be set: it is closed, or it is a point in a closed section at a side at
-- which it isn't known
abbrev pub counts_as_closed : Table → IxlState → Thing → Bool
counts_as_closed table ixl (Point p side) =
    is_closed ixl.closed (Point p side) || (lies_in_closed table ixl p.0 && not (is_known ixl p.0 side))
counts_as_closed table ixl thing = is_closed ixl.closed thing

-- a set route holds a point of a section at a side at which it isn't known
abbrev pub awaits_point_in : Table → IxlState → Row → RouteState → ℕ → Bool
awaits_point_in table ixl row route section =
    list_any (λ need. lies_in table section need.point && holds_need route.phase need && not (is_known ixl need.point need.side)) row.needs

abbrev pub awaits_in_named : Table → IxlState → Row → RouteState → Named → Bool
awaits_in_named table ixl row route (One (Section s)) = awaits_point_in table ixl row route s.0
awaits_in_named table ixl row route _ = false

-- a route stands against the closing of what a command names: it isn't cancelled, and uses it, or awaits a point in it
abbrev pub keeps_open : Table → IxlState → Named → ℕ → Row → RouteState → Bool
keeps_open table ixl named number row route =
    not route.cancelled && (uses_named number row route named || awaits_in_named table ixl row route named)

-- ---- the first route of the table

-- the first route, from this number on, that passes a test
abbrev pub first_route : (ℕ → Row → RouteState → Bool) → ℕ → List Row → List RouteState → Option ℕ
first_route test number [] routes = None
first_route test number (row ∷ rows) [] = None
first_route test number (row ∷ rows) (route ∷ routes) =
    if test number row route then Some number else first_route test (suc number) rows routes

-- the first set route that holds a point
abbrev pub first_holding : Table → IxlState → ℕ → Option ℕ
first_holding table ixl point = first_route (λ number row route. holds_point row route.phase point) 0 table.rows ixl.routes

-- the first route that keeps what a command names open
abbrev pub first_keeping_open : Table → IxlState → Named → Option ℕ
first_keeping_open table ixl named = first_route (keeps_open table ixl named) 0 table.rows ixl.routes
