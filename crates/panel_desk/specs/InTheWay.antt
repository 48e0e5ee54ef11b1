-- What stands against a route, as a panel sees it. The interlocking decides; by this the panel only spares it what it would refuse.
--
-- A line that a panel shows stands against a route where it tells
--
--     that the route is set, or one that conflicts with it;
--     that a section over which the route leads is occupied, or that nothing is known of it;
--     that a thing is closed which the route uses: the route, its entry signal, a section of it, or a point at the side at which the
--     route requires it;
--     that a link is down which the route needs: that of its entry signal, of a point that it requires, or of a detector that
--     reports one of its sections.
--
-- The first of these is a *set route*: it is free again once its train has passed. Each other one *hinders* the route: nothing tells how
-- long it will.
use Rattle.std.specs.Prelude.{◌≡◌, ◌⊎◌, ℕ, Bool, true, false, List, Option, Some, None, slice_get}
use Rattle.std.specs.List.{Contains}
use Rattle.node_lines.specs.control_table.Table.{Conflict, LeadsOver, RouteRequires}
use Rattle.node_lines.specs.control_table.Topology.{IsRoute}
use Rattle.node_lines.specs.layout.Entries.{DetectorEntry, RouteEntry, Site}
use Rattle.node_lines.specs.layout.Nodes.{Node, Signal, Point, Detector, Interlocking, node_at}
use Rattle.node_lines.specs.layout.declared.ids.NodeId.{NodeId}
use Rattle.node_lines.specs.layout.declared.ids.RouteId.{RouteId}
use Rattle.node_lines.specs.layout.declared.ids.SectionId.{SectionId}
use Rattle.node_lines.specs.closings.declared.thing.Thing.{Thing}
use Rattle.node_lines.specs.closings.declared.thing.Thing.TheVariants as thing
use Rattle.node_lines.specs.sci_telegram.declared.message.Occupancy.TheVariants.{Clear, Occupied}
use Rattle.node_lines.specs.sci_telegram.declared.message.Side.TheVariants.{Left, Right}
use Rattle.node_lines.specs.declared.operator_line.Known.{Known}
use Rattle.node_lines.specs.declared.operator_line.Known.TheVariants as known
use Rattle.node_lines.specs.declared.operator_line.LinkState.TheVariants.{Lost}
use Rattle.panel_desk.specs.declared.panel_line.PanelLine.{PanelLine}
use Rattle.panel_desk.specs.declared.panel_line.PanelLine.TheVariants as shows

-- ---- what a route uses

abbrev pub UsedBy : Site → RouteId → Thing → Type 0
UsedBy site route (thing.Section section) = LeadsOver site route section
UsedBy site route (thing.Point point side) = RouteRequires site route point side
UsedBy site route (thing.Signal signal) = (entry : RouteEntry) × IsRoute site route entry × (entry.entry ≡ signal)
UsedBy site route (thing.Route other) = other ≡ route

-- ---- the links that it needs

-- a detector reports one of its sections
abbrev pub ReportsFor : Site → RouteId → ℕ → Type 0
ReportsFor site route place =
    (detector : DetectorEntry) × (section : SectionId) × (slice_get site.detectors place ≡ Some detector) × Contains detector.sections section
    × LeadsOver site route section

abbrev pub IsOfController : Site → RouteId → Option Node → Type 0
IsOfController site route (Some (Signal place)) = UsedBy site route (thing.Signal (record { 0 = place }))
IsOfController site route (Some (Point place)) =
    UsedBy site route (thing.Point (record { 0 = place }) Left) ⊎ UsedBy site route (thing.Point (record { 0 = place }) Right)
IsOfController site route (Some (Detector place)) = ReportsFor site route place
IsOfController site route (Some Interlocking) = ⊥
IsOfController site route None = ⊥

abbrev pub IsOfNode : Site → RouteId → NodeId → Type 0
IsOfNode site route node = IsOfController site route (node_at site node.0)

-- ---- what stands against it

-- a route that is set
abbrev pub IsSetAgainst : Site → RouteId → RouteId → Type 0
IsSetAgainst site route other = (other ≡ route) ⊎ Conflict site route other

abbrev pub KnowledgeAgainst : Site → RouteId → Known → Type 0
KnowledgeAgainst site route (known.Link node Lost) = IsOfNode site route node
KnowledgeAgainst site route (known.Section section (Some Clear)) = ⊥
KnowledgeAgainst site route (known.Section section other) = LeadsOver site route section
KnowledgeAgainst site route (known.Route other true) = IsSetAgainst site route other
KnowledgeAgainst site route other = ⊥

abbrev pub StandsAgainst : Site → RouteId → PanelLine → Type 0
StandsAgainst site route (shows.Known of) = KnowledgeAgainst site route of
StandsAgainst site route (shows.Stands section Occupied) = LeadsOver site route section
StandsAgainst site route (shows.Closed thing true) = UsedBy site route thing
StandsAgainst site route other = ⊥

-- ---- what hinders it

-- a line tells that a route is set, whichever
abbrev pub tells_set_route : PanelLine → Bool
tells_set_route (shows.Known (known.Route other is_set)) = is_set
tells_set_route other = false

-- it stands against a route, and is no set route
abbrev pub Hinders : Site → RouteId → PanelLine → Type 0
Hinders site route line = (tells_set_route line ≡ false) × StandsAgainst site route line

abbrev pub IsHindered : Site → List PanelLine → RouteId → Type 0
IsHindered site lines route = (line : PanelLine) × Contains lines line × Hinders site route line
