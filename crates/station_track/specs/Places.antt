-- The places of a layout, and their numbers: two of each track, then four of each point, then one outside of each border.
use Rattle.std.specs.Prelude.{ℕ, zero, suc, ◌+◌, ◌-◌, ◌*◌, ◌/◌, ◌%◌, nat_lt, length, Option, Some, None, if◌then◌else◌}
use Rattle.control_table.specs.sci_telegram.declared.message.Side.{Side}
use Rattle.control_table.specs.sci_telegram.declared.message.Side.TheVariants as side
use Rattle.control_table.specs.layout.declared.ids.PointId.{PointId}
use Rattle.control_table.specs.layout.declared.port.Element.{Element}
use Rattle.control_table.specs.layout.declared.port.Element.TheVariants as element
use Rattle.control_table.specs.layout.Entries.{Site}
use Rattle.control_table.specs.layout.Station.{HasElement}
use Rattle.station_track.specs.declared.place.Toward.{Toward}
use Rattle.station_track.specs.declared.place.Toward.TheVariants as toward
use Rattle.station_track.specs.declared.place.Over.{Over}
use Rattle.station_track.specs.declared.place.Over.TheVariants as over
use Rattle.station_track.specs.declared.place.Place.{Place}
use Rattle.station_track.specs.declared.place.Place.TheVariants as place

-- The element of a place, which has to be there. Outside it is the border.
abbrev pub element_of : Place → Element
element_of (place.Track t way) = element.Track t
element_of (place.Point p s way) = element.Point p
element_of (place.Outside b) = element.Border b

abbrev pub HasPlace : Site → Place → Type 0
HasPlace l p = HasElement l (element_of p)

-- ---- from a place to its number

abbrev pub toward_number : Toward → ℕ
toward_number toward.A = 0
toward_number toward.B = 1

abbrev pub passing_number : Side → Over → ℕ
passing_number side.Left over.Tip = 0
passing_number side.Right over.Tip = 1
passing_number side.Left over.Leg = 2
passing_number side.Right over.Leg = 3

abbrev pub place_number : Site → Place → ℕ
place_number l (place.Track t way) = 2 * t.0 + toward_number way
place_number l (place.Point p s way) = 2 * length l.tracks + (4 * p.0 + passing_number s way)
place_number l (place.Outside b) = 2 * length l.tracks + (4 * length l.points + b.0)

-- a number that no place has
abbrev pub no_place : Site → ℕ
no_place l = 2 * length l.tracks + (4 * length l.points + length l.borders)

-- ---- and back

abbrev pub toward_numbered : ℕ → Toward
toward_numbered zero = toward.A
toward_numbered (suc n) = toward.B

abbrev pub passing_numbered : PointId → ℕ → Place
passing_numbered p zero = place.Point p side.Left over.Tip
passing_numbered p (suc zero) = place.Point p side.Right over.Tip
passing_numbered p (suc (suc zero)) = place.Point p side.Left over.Leg
passing_numbered p (suc (suc (suc n))) = place.Point p side.Right over.Leg

abbrev pub track_numbered : ℕ → Place
track_numbered n = place.Track (record { 0 = n / 2 }) (toward_numbered (n % 2))

abbrev pub point_numbered : ℕ → Place
point_numbered n = passing_numbered (record { 0 = n / 4 }) (n % 4)

abbrev pub outside_numbered : Site → ℕ → Option Place
outside_numbered l n = if nat_lt n (length l.borders) then Some (place.Outside (record { 0 = n })) else None

abbrev pub later_numbered : Site → ℕ → Option Place
later_numbered l n = if nat_lt n (4 * length l.points) then Some (point_numbered n) else outside_numbered l (n - 4 * length l.points)

-- the place that has a number, if one has it
unfoldable pub place_at : Site → ℕ → Option Place
place_at l n = if nat_lt n (2 * length l.tracks) then Some (track_numbered n) else later_numbered l (n - 2 * length l.tracks)
