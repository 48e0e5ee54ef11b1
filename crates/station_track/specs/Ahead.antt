-- Where the head of a train comes next, as the points lie.
use Rattle.std.specs.Prelude.{◌≡◌, ◌<◌, ℕ, true, length, Option, Some, None, if◌then◌else◌}
use Rattle.std.specs.FinSet.{contains}
use Rattle.train_machine.specs.Track.{Left, Right}
use Rattle.control_table.specs.bit_row.Places.{Places}
use Rattle.control_table.specs.sci_telegram.declared.message.Side.{Side}
use Rattle.control_table.specs.sci_telegram.declared.message.Side.TheVariants as side
use Rattle.control_table.specs.layout.declared.ids.PointId.{PointId}
use Rattle.control_table.specs.layout.declared.port.Port.{Port}
use Rattle.control_table.specs.layout.declared.port.Element.{Element}
use Rattle.control_table.specs.layout.declared.port.Element.TheVariants as element
use Rattle.control_table.specs.layout.Entries.{Site}
use Rattle.layout_text.specs.declared.entries.End.{End}
use Rattle.layout_text.specs.declared.entries.End.TheVariants as end
use Rattle.station_track.specs.declared.place.Toward.TheVariants as toward
use Rattle.station_track.specs.declared.place.Over.TheVariants as over
use Rattle.station_track.specs.declared.place.Place.{Place}
use Rattle.station_track.specs.declared.place.Place.TheVariants as place
use Rattle.station_track.specs.declared.ahead.Ahead.{Ahead}
use Rattle.station_track.specs.declared.ahead.Ahead.TheVariants.{Nothing, Out, Onto}
use Rattle.station_track.specs.Places.{HasPlace}
use Rattle.station_track.specs.Ports.{front, beyond}
use Rattle.station_track.specs.Tracks.{track_of}

-- the leg by which a point is left that is entered by its tip: the right one where it lies right, else the left one
abbrev pub leg_taken : Places → PointId → Side
leg_taken right p = if contains right p.0 then side.Right else side.Left

abbrev pub entered_place : Places → Element → End → Ahead
entered_place right (element.Track t) end.A = Onto (place.Track t toward.B)
entered_place right (element.Track t) end.B = Onto (place.Track t toward.A)
entered_place right (element.Point p) end.Tip = Onto (place.Point p (leg_taken right p) over.Tip)
entered_place right (element.Point p) end.Left = Onto (place.Point p side.Left over.Leg)
entered_place right (element.Point p) end.Right = Onto (place.Point p side.Right over.Leg)
entered_place right (element.Border b) end.End = Out
entered_place right _ _ = Nothing

abbrev pub behind_port : Places → Option Port → Ahead
behind_port right None = Nothing
behind_port right (Some entered) = entered_place right entered.element entered.end

-- a track is left by its other end, a point by its tip, or by the leg at which it lies where it is entered by the tip; behind a border the
-- station ends
abbrev pub ahead : Site → Places → Place → Ahead
ahead l right p = behind_port right (beyond l.joints (front p))

-- A place is joined to the next one, which lies by the leg that the point takes, where it is entered by its tip. The next one lies in a
-- section of the station.
pub record ComesOnto (l : Site) (right : Places) (n m : ℕ) : Type 0 where
  pub joined : (track_of l).follows n m ≡ true
  pub by_leg : (point : ℕ) → (track_of l).point m ≡ Some point → (track_of l).is_facing m ≡ true
      → (track_of l).leg m ≡ (if contains right point then Right else Left)
  pub inside : (track_of l).section m < length l.sections

-- a place that is ahead, if one is, is one of the layout
abbrev pub IfOnto : Site → Ahead → Type 0
IfOnto l Nothing = Unit {0}
IfOnto l Out = Unit {0}
IfOnto l (Onto p) = HasPlace l p
