-- The rules of a line's end, over the layout of its station.
use Rattle.std.specs.Prelude.{◌==◌, ◌&&◌, ◌||◌, ℕ, suc, Bool, true, false, not, List, [], ◌∷◌, length, Option, Some, None, if◌then◌else◌}
use Rattle.std.specs.List.{list_all, list_any}
use Rattle.layout_text.specs.declared.entries.End.TheVariants as end
use Rattle.control_table.specs.sci_telegram.declared.message.Side.{Side}
use Rattle.control_table.specs.sci_telegram.declared.message.Side.TheVariants as side
use Rattle.control_table.specs.layout.Entries.{DetectorEntry, RouteEntry, Site}
use Rattle.control_table.specs.layout.Known.{same_port}
use Rattle.control_table.specs.layout.declared.entries.Exit.{Exit}
use Rattle.control_table.specs.layout.declared.entries.Exit.TheVariants as exit
use Rattle.control_table.specs.layout.declared.entries.Point.{Point}
use Rattle.control_table.specs.layout.declared.entries.Track.{Track}
use Rattle.control_table.specs.layout.declared.ids.BorderId.{BorderId}
use Rattle.control_table.specs.layout.declared.ids.PointId.{PointId}
use Rattle.control_table.specs.layout.declared.ids.SectionId.{SectionId}
use Rattle.control_table.specs.layout.declared.ids.TrackId.{TrackId}
use Rattle.control_table.specs.layout.declared.port.Element.TheVariants as element
use Rattle.control_table.specs.layout.declared.port.Port.{Port}
use Rattle.control_table.specs.Path.{same_section}
use Rattle.control_table.specs.Sides.{leg}
use Rattle.control_table.specs.Topology.{section_of}
use Rattle.railway_layout.specs.States.{EndState}
use Rattle.railway_layout.specs.Way.{joined_to, way}

-- ---- routes

abbrev pub same_side : Side → Side → Bool
same_side side.Left side.Left = true
same_side side.Right side.Right = true
same_side _ _ = false

-- a route writes a point of its path at a side
abbrev pub writes : PointId → Side → RouteEntry → Bool
writes p s r = list_any (λ n. n.0.0 == p.0 && same_side n.1 s) r.points

abbrev pub is_exit : BorderId → Exit → Bool
is_exit b (exit.Border c) = c.0 == b.0
is_exit b _ = false

-- a route leaves an element by this port
abbrev pub leaves_by : Port → RouteEntry → Bool
leaves_by p r = list_any (λ port. same_port port p) r.path

-- A route onto the line: it ends at the border, or leaves the lock by its left leg, where the track of the line lies once more.
abbrev pub leads_onto : EndState → RouteEntry → Bool
leads_onto e r = is_exit e.border r.exit || leaves_by (leg e.lock side.Left) r

abbrev pub tip : PointId → Port
tip p = record { element = element.Point p; end = end.Tip }

-- a route in: it leaves the lock by its tip
abbrev pub leads_in : PointId → RouteEntry → Bool
leads_in p r = leaves_by (tip p) r

-- onto the line without the lock at the right
abbrev pub lacks_right : EndState → RouteEntry → Bool
lacks_right e r = leads_onto e r && not (writes e.lock side.Right r)

-- in without the lock at the left
abbrev pub lacks_left : EndState → RouteEntry → Bool
lacks_left e r = leads_in e.lock r && not (writes e.lock side.Left r)

-- some route comes in over the lock's left leg
abbrev pub has_route_in : PointId → List RouteEntry → Bool
has_route_in lock routes = list_any (λ r. leads_in lock r && writes lock side.Left r) routes

-- ---- the section that the end tells

abbrev pub is_section : SectionId → Option SectionId → Bool
is_section s None = false
is_section s (Some other) = same_section other s

-- a track lies in the section
abbrev pub is_in : Site → SectionId → TrackId → Bool
is_in l s t = is_section s (section_of l (element.Track t))

abbrev pub is_among : List TrackId → ℕ → Bool
is_among way n = list_any (λ t. t.0 == n) way

-- a track, the n-th, lies in the section and isn't one of these
abbrev pub is_astray : List TrackId → SectionId → ℕ → Track → Bool
is_astray way s n track = same_section track.section s && not (is_among way n)

-- each track of the section is one of these, where the first track is the n-th
unfoldable pub tracks_among : List TrackId → SectionId → ℕ → List Track → Bool
tracks_among way s n [] = true
tracks_among way s n (track ∷ tracks) = if is_astray way s n track then false else tracks_among way s (suc n) tracks

abbrev pub has_no_point : SectionId → List Point → Bool
has_no_point s points = list_all (λ p. not (same_section p.section s)) points

abbrev pub has_some_track : Site → SectionId → List TrackId → Bool
has_some_track l s way = list_any (λ t. is_in l s t) way

-- Some track on the way lies in the section, no other track does, and no point.
abbrev pub lies_on : Site → SectionId → List TrackId → Bool
lies_on l s way = has_some_track l s way && tracks_among way s 0 l.tracks && has_no_point s l.points

-- Where no way is found, that is told alone.
abbrev pub is_elsewhere : Site → SectionId → Option (List TrackId) → Bool
is_elsewhere l s None = false
is_elsewhere l s (Some way) = not (lies_on l s way)

abbrev pub is_only : SectionId → List SectionId → Bool
is_only s [] = false
is_only s (other ∷ more) = (length more == 0) && same_section other s

-- a detector reports the section, and no other
abbrev pub is_alone : SectionId → List DetectorEntry → Bool
is_alone s detectors = list_any (λ d. is_only s d.sections) detectors

-- ---- the part

abbrev pub has_section : List SectionId → SectionId → Bool
has_section part s = list_any (λ other. same_section other s) part

-- the section in which an element lies, if it lies in one
abbrev pub has_some : List SectionId → Option SectionId → Bool
has_some part None = false
has_some part (Some s) = has_section part s

abbrev pub has_element : Site → List SectionId → Option Port → Bool
has_element l part None = false
has_element l part (Some p) = has_some part (section_of l p.element)

-- what is joined to the lock's left leg lies in a section of the part
abbrev pub has_track : Site → EndState → Bool
has_track l e = has_element l e.part (joined_to l.joints (leg e.lock side.Left))
