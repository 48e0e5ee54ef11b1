-- Which ports are joined, what stands at a port, and in which section an element lies.
use Rattle.std.specs.Prelude.{◌≡◌, ◌⊎◌, List, Option, Some, None, slice_get}
use Rattle.std.specs.Option.{option_map}
use Rattle.std.specs.List.{Contains}
use Rattle.layout.specs.declared.ids.SectionId.{SectionId}
use Rattle.layout.specs.declared.ids.SignalId.{SignalId}
use Rattle.layout.specs.declared.ids.RouteId.{RouteId}
use Rattle.layout.specs.declared.port.Port.{Port}
use Rattle.layout.specs.declared.port.Element.{Element}
use Rattle.layout.specs.declared.port.Element.TheVariants as element
use Rattle.layout.specs.declared.entries.Joint.{Joint}
use Rattle.layout.specs.declared.entries.Signal.{Signal}
use Rattle.layout.specs.Entries.{RouteEntry, Site}

-- A joint lies between two ports, whichever of them it names first.
abbrev pub Joins : Joint → Port → Port → Type 0
Joins joint p q = ((joint.first ≡ p) × (joint.second ≡ q)) ⊎ ((joint.first ≡ q) × (joint.second ≡ p))

-- Two ports lie end to end. A port that is joined to none is a dead end.
abbrev pub Joined : Site → Port → Port → Type 0
Joined l p q = (joint : Joint) × Contains l.joints joint × Joins joint p q

-- The port at which a signal stands.
abbrev pub port_of : List Signal → SignalId → Option Port
port_of signals s = option_map (λ signal. signal.at) (slice_get signals s.0)

-- A signal of the layout stands at a port. It rules the trains that leave the element there.
abbrev pub StandsAt : Site → SignalId → Port → Type 0
StandsAt l s p = port_of l.signals s ≡ Some p

-- The section in which an element lies. A border lies in none.
abbrev pub section_of : Site → Element → Option SectionId
section_of l (element.Track t) = option_map (λ track. track.section) (slice_get l.tracks t.0)
section_of l (element.Point p) = option_map (λ point. point.section) (slice_get l.points p.0)
section_of l (element.Border b) = None

-- A route of the table, and its entry there.
abbrev pub IsRoute : Site → RouteId → RouteEntry → Type 0
IsRoute l a r = slice_get l.routes a.0 ≡ Some r
