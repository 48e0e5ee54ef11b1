-- What a panel shows of a world: true time, what the interlocking takes, and of each thing what is seen of it, or what the
-- interlocking knows of it, in the order of the layout.
use Rattle.std.specs.Prelude.{ℕ, zero, suc, ◌/◌, ◌==◌, ◌&&◌, Bool, true, false, if◌then◌else◌, List, [], ◌∷◌, length, Option, Some, None, is_some, slice_get}
use Rattle.std.specs.List.{flat_map}
use Rattle.std.specs.Option.{option_map_or}
use Rattle.station_record.specs.replay.layout.Entries.{RouteEntry, Site}
use Rattle.station_record.specs.replay.layout.Nodes.{detector_link, point_link}
use Rattle.station_record.specs.replay.layout.declared.ids.RouteId.{RouteId}
use Rattle.station_record.specs.replay.sci_telegram.declared.message.Aspect.TheVariants as aspects
use Rattle.station_record.specs.replay.sci_telegram.declared.message.Occupancy.TheVariants as occupancies
use Rattle.station_record.specs.replay.sci_telegram.declared.message.Position.TheVariants as positions
use Rattle.station_record.specs.replay.sci_telegram.declared.message.Side.TheVariants as sides
use Rattle.station_record.specs.replay.ixl_spec.closings.Closed.{is_closed}
use Rattle.station_record.specs.replay.ixl_spec.closings.declared.thing.Thing.{Thing as Closable}
use Rattle.station_record.specs.replay.ixl_spec.closings.declared.thing.Thing.TheVariants as closable
use Rattle.station_record.specs.replay.ixl_spec.State.{IxlState, RouteState}
use Rattle.station_record.specs.replay.ixl_spec.Table.{Row, at}
use Rattle.station_record.specs.replay.ixl_spec.View.{holds_section, is_holding, is_point_ready, is_set, is_signal_ready}
use Rattle.station_record.specs.replay.rasta_core.Ends.{reading_of}
use Rattle.station_record.specs.replay.simulator_spec.ixl_client.Client.{is_ready}
use Rattle.station_record.specs.replay.simulator_spec.Interlocking.{held_of}
use Rattle.station_record.specs.replay.simulator_spec.Refusals.{driven_at}
use Rattle.station_record.specs.replay.simulator_spec.Seen.{shown_by}
use Rattle.station_record.specs.replay.simulator_spec.simulator_event.declared.snapshot.Held.{Held}
use Rattle.station_panel.specs.panel_desk.declared.panel_line.Mode.{Mode}
use Rattle.station_panel.specs.panel_desk.declared.panel_line.Mode.TheVariants.{Ready, Holding, WaitingForResume}
use Rattle.station_panel.specs.panel_desk.declared.panel_line.PanelLine.{PanelLine}
use Rattle.station_panel.specs.panel_desk.declared.panel_line.PanelLine.TheVariants as line
use Rattle.station_panel.specs.panel_desk.node_lines.declared.operator_line.Authority.{Authority}
use Rattle.station_panel.specs.panel_desk.node_lines.declared.operator_line.Known.TheVariants as known
use Rattle.station_panel.specs.panel_desk.node_lines.declared.operator_line.LinkState.TheVariants as link
use Rattle.station_record.specs.replay.World.{Played}
use Rattle.station_run.specs.declared.thing.Thing.{Thing}
use Rattle.station_run.specs.declared.thing.Thing.TheVariants.{Aspect as SignalAspect, Lies, Stands, Locked, SignalLink, PointLink, DetectorLink, HeldRoute, Route, Release, SectionClosing, LeftClosing, RightClosing, SignalClosing, RouteClosing}

-- ---- the interlocking

abbrev pub mode_of : Bool → Bool → Mode
mode_of true resumed = Holding
mode_of false true = Ready
mode_of false false = WaitingForResume

abbrev pub mode_seen : Played → Mode
mode_seen world = mode_of (is_holding (reading_of world.run.interlocking.clock) world.run.interlocking.ixl) world.run.interlocking.ixl.resumed

-- ---- routes

-- the first route that is held for a signal
abbrev pub route_held : ℕ → List Held → Option RouteId
route_held signal [] = None
route_held signal (held ∷ others) = if held.signal.0 == signal then Some held.route else route_held signal others

-- a route with its aspect
abbrev pub with_aspect : RouteId → Option RouteEntry → Option Authority
with_aspect route None = None
with_aspect route (Some entry) = Some (record { aspect = entry.aspect; route = route })

abbrev pub authority_of : List RouteEntry → Option RouteId → Option Authority
authority_of routes None = None
authority_of routes (Some route) = with_aspect route (slice_get routes route.0)

-- whether a route locks a section
abbrev pub lock_of : Option Row → Option RouteState → ℕ → Bool
lock_of (Some row) (Some route) section = holds_section row route.phase section
lock_of _ _ section = false

-- the first of so many routes from a number on that locks a section
abbrev pub locking : List Row → List RouteState → ℕ → ℕ → ℕ → Option RouteId
locking rows routes section number zero = None
locking rows routes section number (suc more) =
    if lock_of (slice_get rows number) (slice_get routes number) section then Some (record { 0 = number })
    else locking rows routes section (suc number) more

-- ---- links

-- the link to the controller of the node of a number
abbrev pub link_line : ℕ → Bool → PanelLine
link_line number ready = line.Known (known.Link (record { 0 = number }) (if ready then link.Ready else link.Lost))

abbrev pub is_detector_ready : IxlState → ℕ → Bool
is_detector_ready ixl place = at ixl.detectors place (λ detector. is_ready detector.client.stage)

-- ---- each thing

-- whether a route was released in its present setting
abbrev pub is_released : RouteState → Bool
is_released kept = is_set kept.phase && is_some kept.released

abbrev pub released_at : List RouteState → ℕ → Bool
released_at routes place = option_map_or is_released (slice_get routes place) false

-- the thing of which a kind of closing tells, at a place
abbrev pub closing_of : Thing → ℕ → Closable
closing_of SectionClosing place = closable.Section (record { 0 = place })
closing_of LeftClosing place = closable.Point (record { 0 = place }) sides.Left
closing_of RightClosing place = closable.Point (record { 0 = place }) sides.Right
closing_of SignalClosing place = closable.Signal (record { 0 = place })
closing_of other place = closable.Route (record { 0 = place })

-- whether the interlocking has it closed
abbrev pub closing_line : Played → Closable → PanelLine
closing_line world thing = line.Closed thing (is_closed world.run.interlocking.ixl.closed thing)

-- what is shown of the thing of a kind at a place
abbrev pub line_at : Played → Thing → ℕ → PanelLine
line_at world SignalAspect place = line.Shows (record { 0 = place }) (option_map_or shown_by (slice_get world.run.signals place) aspects.Stop)
line_at world Lies place = line.Lies (record { 0 = place }) (option_map_or (λ p. p) (slice_get world.run.positions place) positions.NoEndPosition) (driven_at place world.run.points)
line_at world Stands place = line.Stands (record { 0 = place }) (option_map_or (λ o. o) (slice_get world.run.occupancies place) occupancies.Clear)
line_at world Locked place = line.Locked (record { 0 = place }) (locking world.sited.table.rows world.run.interlocking.ixl.routes place 0 (length world.sited.table.rows))
line_at world SignalLink place = link_line (suc place) (is_signal_ready world.run.interlocking.ixl place)
line_at world PointLink place = link_line (suc (point_link world.sited.site place)) (is_point_ready world.run.interlocking.ixl place)
line_at world DetectorLink place = link_line (suc (detector_link world.sited.site place)) (is_detector_ready world.run.interlocking.ixl place)
line_at world HeldRoute place =
    line.Known (known.Signal (record { 0 = place }) (authority_of world.sited.site.routes (route_held place (held_of world.sited.table world.run.interlocking world.run.frozen))))
line_at world Route place = line.Known (known.Route (record { 0 = place }) (option_map_or (λ kept. is_set kept.phase) (slice_get world.run.interlocking.ixl.routes place) false))
line_at world Release place = line.Released (record { 0 = place }) (released_at world.run.interlocking.ixl.routes place)
line_at world closing place = closing_line world (closing_of closing place)

-- how many things of a kind there are
abbrev pub count : Site → Thing → ℕ
count site SignalAspect = length site.signals
count site Lies = length site.points
count site Stands = length site.sections
count site Locked = length site.sections
count site SignalLink = length site.signals
count site PointLink = length site.points
count site DetectorLink = length site.detectors
count site HeldRoute = length site.signals
count site Route = length site.routes
count site Release = length site.routes
count site SectionClosing = length site.sections
count site LeftClosing = length site.points
count site RightClosing = length site.points
count site SignalClosing = length site.signals
count site RouteClosing = length site.routes

-- of so many things, from a place on
abbrev pub each : (ℕ → PanelLine) → ℕ → ℕ → List PanelLine
each of place zero = []
each of place (suc more) = of place ∷ each of (suc place) more

abbrev pub all_of : Played → Thing → List PanelLine
all_of world thing = each (line_at world thing) 0 (count world.sited.site thing)

abbrev pub things : List Thing
things = SignalAspect ∷ Lies ∷ Stands ∷ Locked ∷ SignalLink ∷ PointLink ∷ DetectorLink ∷ HeldRoute ∷ Route ∷ Release ∷ SectionClosing ∷ LeftClosing ∷ RightClosing ∷ SignalClosing ∷ RouteClosing ∷ []

-- ---- the picture

abbrev pub pictured : Played → List PanelLine
pictured world = line.Time (world.run.time / 1000) ∷ line.Interlocking (mode_seen world) ∷ flat_map (all_of world) things
