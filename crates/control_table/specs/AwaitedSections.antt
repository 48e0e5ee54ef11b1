-- Until when a route holds the points that it requires.
use Rattle.std.specs.Prelude.{◌≡◌, ◌⊎◌, List, Some}
use Rattle.layout.specs.declared.ids.SectionId.{SectionId}
use Rattle.layout.specs.declared.ids.PointId.{PointId}
use Rattle.layout.specs.declared.ids.RouteId.{RouteId}
use Rattle.layout.specs.declared.port.Element.TheVariants as element
use Rattle.layout.specs.Entries.{RouteEntry, Site}
use Rattle.control_table.specs.Topology.{IsRoute, section_of}
use Rattle.control_table.specs.Path.{Passage, Path}
use Rattle.control_table.specs.Sides.{OnPath}
use Rattle.control_table.specs.Table.{Protects}

-- A point lies on the path of a route.
abbrev pub OnRoute : Site → RouteId → PointId → Type 0
OnRoute l a p = (r : RouteEntry) × (path : List Passage) × IsRoute l a r × Path l r path × OnPath path p

-- A point lies in a section.
abbrev pub InSection : Site → PointId → SectionId → Type 0
InSection l p s = section_of l (element.Point p) ≡ Some s

-- A point that a route requires awaits a section: where it lies on the path, its own; otherwise the section of each
-- point that it protects on this route.
abbrev pub Awaits : Site → RouteId → PointId → SectionId → Type 0
Awaits l a p s = (OnRoute l a p × InSection l p s) ⊎ ((OnRoute l a p → ⊥) × ((q : PointId) × Protects l a p q × InSection l q s))
