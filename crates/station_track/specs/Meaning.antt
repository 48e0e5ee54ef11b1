-- What the numbers mean, in the words of the layout.
use Rattle.std.specs.Prelude.{◌≡◌, ◌↔◌, ◌≤◌, ◌+◌, ℕ, true, List, [], ◌∷◌, length, map, Option, Some, None}
use Rattle.train_machine.specs.Track.{path}
use Rattle.control_table.specs.sci_telegram.declared.message.Side.{Side}
use Rattle.control_table.specs.layout.declared.ids.BorderId.{BorderId}
use Rattle.control_table.specs.layout.declared.ids.PointId.{PointId}
use Rattle.control_table.specs.layout.declared.ids.RouteId.{RouteId}
use Rattle.control_table.specs.layout.declared.ids.SectionId.{SectionId}
use Rattle.control_table.specs.layout.declared.ids.SignalId.{SignalId}
use Rattle.control_table.specs.layout.declared.port.Port.{Port}
use Rattle.control_table.specs.layout.declared.port.Element.TheVariants as element
use Rattle.control_table.specs.layout.Entries.{RouteEntry, Site}
use Rattle.control_table.specs.layout.Station.{HasPort}
use Rattle.control_table.specs.Topology.{Joined, StandsAt, section_of}
use Rattle.control_table.specs.Path.{Passage}
use Rattle.station_track.specs.declared.place.Over.{Over}
use Rattle.station_track.specs.declared.place.Place.{Place}
use Rattle.station_track.specs.declared.place.Place.TheVariants as place
use Rattle.station_track.specs.Places.{HasPlace, element_of, place_number}
use Rattle.station_track.specs.Ports.{front, rear, turned_place, place_between, signal_from}
use Rattle.station_track.specs.Paths.{number_of}
use Rattle.station_track.specs.Tracks.{machine_side, is_by_tip, track_of}

-- a place, if there is one, is one of the layout
abbrev pub IfThere : Site → Option Place → Type 0
IfThere l None = Unit {0}
IfThere l (Some p) = HasPlace l p

-- a port, if there is one, is one of the layout
abbrev pub IfPort : Site → Option Port → Type 0
IfPort l None = Unit {0}
IfPort l (Some p) = HasPort l p

-- A number is that of a place, and the place is there.
pub record IsNumberOf (l : Site) (n : ℕ) (p : Place) : Type 0 where
  pub there : HasPlace l p
  pub number : place_number l p ≡ n

-- A train that stands on one place can come onto another: the front of the one is joined to the rear of the other.
pub record ComesNext (l : Site) (p next : Place) : Type 0 where
  pub port : Port
  pub joined : Joined l (front p) port
  pub behind : rear next ≡ Some port

-- What the track says of the number of a place.
pub record MeansPlace (l : Site) (n : ℕ) (p : Place) : Type 0 where
  -- its section is that of its element; what is outside of a border has one by itself
  pub section : (s : SectionId) → section_of l (element_of p) ≡ Some s → (track_of l).section n ≡ s.0
  pub outside : (b : BorderId) → p ≡ place.Outside b → (track_of l).section n ≡ length l.sections + b.0
  -- it is on a point exactly where its element is one, by this leg, and over the tip or not
  pub point : (m : ℕ) → ((track_of l).point n ≡ Some m) ↔ (element_of p ≡ element.Point (record { 0 = m }))
  pub leg : (q : PointId) (s : Side) (way : Over) → p ≡ place.Point q s way → ((track_of l).leg n ≡ machine_side s) × ((track_of l).is_facing n ≡ is_by_tip way)
  -- the next place is one that a train can come onto
  pub follows : (m : ℕ) (q : Place) → IsNumberOf l m q → ((track_of l).follows n m ≡ true) ↔ ComesNext l p q
  -- the other way round
  pub turned : IsNumberOf l ((track_of l).turned n) (turned_place p)
  -- the signal stands at its front
  pub signal : (s : SignalId) → ((track_of l).signal n ≡ Some s.0) ↔ StandsAt l s (front p)

-- The path of a route is that of its passages, in their order.
pub record MeansRoute (l : Site) (a : RouteId) (r : RouteEntry) (passages : List Passage) : Type 0 where
  pub entry : (track_of l).entry a.0 ≡ r.entry.0
  pub path : path (track_of l) a.0 ≡ map (λ g. number_of l (place_between (Some g.entered) g.left)) passages

-- A passage is made on a place: it enters by the rear, and leaves by the front.
pub record IsMadeOn (l : Site) (g : Passage) (p : Place) : Type 0 where
  pub number : IsNumberOf l (number_of l (place_between (Some g.entered) g.left)) p
  pub enters : rear p ≡ Some g.entered
  pub leaves : front p ≡ g.left

-- Outside of a border at whose own port a signal stands is one place. It is the border's throat, and lies in no section of the station.
pub record IsOutside (l : Site) (b : BorderId) : Type 0 where
  pub there : HasPlace l (place.Outside b)
  pub throat : (track_of l).throat b.0 ≡ place_number l (place.Outside b) ∷ []
  pub section : length l.sections ≤ (track_of l).section (place_number l (place.Outside b))
  pub signal : (track_of l).signal (place_number l (place.Outside b)) ≡ signal_from 0 l.signals (front (place.Outside b))
