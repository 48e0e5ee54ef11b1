-- The path of a route, as numbers of places.
use Rattle.std.specs.Prelude.{ℕ, length, List, [], ◌∷◌, Option, Some, None, slice_get}
use Rattle.control_table.specs.layout.declared.port.Port.{Port}
use Rattle.control_table.specs.layout.Entries.{RouteEntry, Site}
use Rattle.control_table.specs.Topology.{port_of}
use Rattle.station_track.specs.declared.place.Place.{Place}
use Rattle.station_track.specs.Places.{place_number, no_place}
use Rattle.station_track.specs.Ports.{place_between, beyond}

abbrev pub number_of : Site → Option Place → ℕ
number_of l None = no_place l
number_of l (Some p) = place_number l p

-- the places from a port on, each left by the next of these ports
abbrev pub places_from : Site → Port → List Port → List ℕ
places_from l before [] = []
places_from l before (left ∷ later) = number_of l (place_between (beyond l.joints before) left) ∷ places_from l left later

abbrev pub places_behind : Site → Option Port → List Port → List ℕ
places_behind l None ports = []
places_behind l (Some from) ports = places_from l from ports

-- the places of a route of the table; of none where it isn't there
abbrev pub route_places : Site → Option RouteEntry → List ℕ
route_places l None = []
route_places l (Some r) = places_behind l (port_of l.signals r.entry) r.path

-- the signal at which it begins; a number that no signal has where it isn't there
abbrev pub entry_number : Site → Option RouteEntry → ℕ
entry_number l None = length l.signals
entry_number l (Some r) = r.entry.0

abbrev pub first_or : ℕ → List ℕ → ℕ
first_or none [] = none
first_or none (first ∷ later) = first

abbrev pub later_ones : List ℕ → List ℕ
later_ones [] = []
later_ones (first ∷ later) = later

abbrev pub route_at : Site → ℕ → Option RouteEntry
route_at l n = slice_get l.routes n
