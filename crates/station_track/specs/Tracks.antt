-- The track of a layout and its table of routes, as the machine of trains has it.
use Rattle.std.specs.Prelude.{ℕ, ◌+◌, Bool, true, false, length, Option, Some, None}
use Rattle.train_machine.specs.Track.{Left, Right, Track}
use Rattle.train_machine.specs.Track as machine
use Rattle.control_table.specs.sci_telegram.declared.message.Side.{Side}
use Rattle.control_table.specs.sci_telegram.declared.message.Side.TheVariants as side
use Rattle.control_table.specs.layout.declared.ids.SectionId.{SectionId}
use Rattle.control_table.specs.layout.declared.port.Port.{Port}
use Rattle.control_table.specs.layout.declared.port.Element.TheVariants as element
use Rattle.control_table.specs.layout.Entries.{Site}
use Rattle.control_table.specs.Topology.{section_of}
use Rattle.station_track.specs.declared.place.Over.{Over}
use Rattle.station_track.specs.declared.place.Over.TheVariants as over
use Rattle.station_track.specs.declared.place.Place.{Place}
use Rattle.station_track.specs.declared.place.Place.TheVariants as place
use Rattle.station_track.specs.Places.{place_number, place_at, no_place}
use Rattle.station_track.specs.Ports.{front, rear, turned_place, beyond, signal_from, is_same_port}
use Rattle.station_track.specs.Paths.{route_places, entry_number, first_or, later_ones, route_at}
use Rattle.station_track.specs.Throats.{throat_places}

-- a number that no section has
abbrev pub no_section : Site → ℕ
no_section l = length l.sections + length l.borders

abbrev pub section_number : Site → Option SectionId → ℕ
section_number l None = no_section l
section_number l (Some s) = s.0

-- the section of a place; what is outside of a border is a section of its own
abbrev pub place_section : Site → Option Place → ℕ
place_section l None = no_section l
place_section l (Some (place.Track t way)) = section_number l (section_of l (element.Track t))
place_section l (Some (place.Point p s way)) = section_number l (section_of l (element.Point p))
place_section l (Some (place.Outside b)) = length l.sections + b.0

abbrev pub place_point : Option Place → Option ℕ
place_point None = None
place_point (Some (place.Track t way)) = None
place_point (Some (place.Point p s way)) = Some p.0
place_point (Some (place.Outside b)) = None

abbrev pub machine_side : Side → machine.Side
machine_side side.Left = Left
machine_side side.Right = Right

abbrev pub place_leg : Option Place → machine.Side
place_leg None = Left
place_leg (Some (place.Track t way)) = Left
place_leg (Some (place.Point p s way)) = machine_side s
place_leg (Some (place.Outside b)) = Left

abbrev pub is_by_tip : Over → Bool
is_by_tip over.Tip = true
is_by_tip over.Leg = false

abbrev pub is_place_facing : Option Place → Bool
is_place_facing None = false
is_place_facing (Some (place.Track t way)) = false
is_place_facing (Some (place.Point p s way)) = is_by_tip way
is_place_facing (Some (place.Outside b)) = false

abbrev pub front_of : Option Place → Option Port
front_of None = None
front_of (Some p) = Some (front p)

abbrev pub rear_of : Option Place → Option Port
rear_of None = None
rear_of (Some p) = rear p

abbrev pub beyond_front : Site → Option Port → Option Port
beyond_front l None = None
beyond_front l (Some p) = beyond l.joints p

abbrev pub signal_before : Site → Option Port → Option ℕ
signal_before l None = None
signal_before l (Some p) = signal_from 0 l.signals p

abbrev pub turned_number : Site → ℕ → Option Place → ℕ
turned_number l n None = n
turned_number l n (Some p) = place_number l (turned_place p)

-- The track of a layout. A section, a point, a signal, a border and a route have the numbers that they have there.
abbrev pub track_of : Site → Track
track_of l = record {
  section = λ n. place_section l (place_at l n);
  point = λ n. place_point (place_at l n);
  leg = λ n. place_leg (place_at l n);
  is_facing = λ n. is_place_facing (place_at l n);
  own = λ n. section_number l (section_of l (element.Point (record { 0 = n })));
  follows = λ n next. is_same_port (beyond_front l (front_of (place_at l n))) (rear_of (place_at l next));
  turned = λ n. turned_number l n (place_at l n);
  signal = λ n. signal_before l (front_of (place_at l n));
  entry = λ n. entry_number l (route_at l n);
  first = λ n. first_or (no_place l) (route_places l (route_at l n));
  later = λ n. later_ones (route_places l (route_at l n));
  throat = λ n. throat_places l (place.Outside (record { 0 = n }));
}
