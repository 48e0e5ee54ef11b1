-- By which ports a train stands on a place, what is joined to them, and what stands there.
use Rattle.std.specs.Prelude.{ℕ, suc, Bool, false, List, [], ◌∷◌, Option, Some, None, if◌then◌else◌}
use Rattle.std.specs.Option.{option_or}
use Rattle.control_table.specs.sci_telegram.declared.message.Side.{Side}
use Rattle.control_table.specs.sci_telegram.declared.message.Side.TheVariants as side
use Rattle.control_table.specs.layout.declared.ids.PointId.{PointId}
use Rattle.control_table.specs.layout.declared.port.Port.{Port}
use Rattle.control_table.specs.layout.declared.port.Element.{Element}
use Rattle.control_table.specs.layout.declared.port.Element.TheVariants as element
use Rattle.control_table.specs.layout.declared.entries.Joint.{Joint}
use Rattle.control_table.specs.layout.declared.entries.Signal.{Signal}
use Rattle.control_table.specs.layout.Known.{same_port}
use Rattle.layout_text.specs.declared.entries.End.{End}
use Rattle.layout_text.specs.declared.entries.End.TheVariants as end
use Rattle.control_table.specs.Sides.{leg}
use Rattle.station_track.specs.declared.place.Toward.{Toward}
use Rattle.station_track.specs.declared.place.Toward.TheVariants as toward
use Rattle.station_track.specs.declared.place.Over.{Over}
use Rattle.station_track.specs.declared.place.Over.TheVariants as over
use Rattle.station_track.specs.declared.place.Place.{Place}
use Rattle.station_track.specs.declared.place.Place.TheVariants as place

-- ---- the ports of a place

abbrev pub toward_end : Toward → End
toward_end toward.A = end.A
toward_end toward.B = end.B

abbrev pub away_end : Toward → End
away_end toward.A = end.B
away_end toward.B = end.A

abbrev pub tip : PointId → Port
tip p = record { element = element.Point p; end = end.Tip }

-- the port to the front
abbrev pub front : Place → Port
front (place.Track t way) = record { element = element.Track t; end = toward_end way }
front (place.Point p s over.Tip) = leg p s
front (place.Point p s over.Leg) = tip p
front (place.Outside b) = record { element = element.Border b; end = end.End }

-- the port to the rear; a train comes from the line onto what is outside of a border
abbrev pub rear : Place → Option Port
rear (place.Track t way) = Some (record { element = element.Track t; end = away_end way })
rear (place.Point p s over.Tip) = Some (tip p)
rear (place.Point p s over.Leg) = Some (leg p s)
rear (place.Outside b) = None

-- the same element the other way round
abbrev pub other_way : Toward → Toward
other_way toward.A = toward.B
other_way toward.B = toward.A

abbrev pub other_over : Over → Over
other_over over.Tip = over.Leg
other_over over.Leg = over.Tip

abbrev pub turned_place : Place → Place
turned_place (place.Track t way) = place.Track t (other_way way)
turned_place (place.Point p s way) = place.Point p s (other_over way)
turned_place (place.Outside b) = place.Outside b

-- ---- the place that has ports

abbrev pub over_leg : PointId → End → Option Place
over_leg p end.Left = Some (place.Point p side.Left over.Leg)
over_leg p end.Right = Some (place.Point p side.Right over.Leg)
over_leg p _ = None

abbrev pub track_left : Element → Toward → Option Place
track_left (element.Track t) way = Some (place.Track t way)
track_left _ way = None

abbrev pub leg_left : Element → Side → Option Place
leg_left (element.Point p) s = Some (place.Point p s over.Tip)
leg_left _ s = None

abbrev pub tip_left : Element → End → Option Place
tip_left (element.Point p) entered = over_leg p entered
tip_left _ entered = None

-- on an element that is left by one end, and entered by another
abbrev pub place_left : Element → (entered left : End) → Option Place
place_left on entered end.A = track_left on toward.A
place_left on entered end.B = track_left on toward.B
place_left on entered end.Left = leg_left on side.Left
place_left on entered end.Right = leg_left on side.Right
place_left on entered end.Tip = tip_left on entered
place_left on entered end.End = None

-- from the port by which its element is entered, if it is, to that by which it is left
abbrev pub place_between : Option Port → Port → Option Place
place_between None left = None
place_between (Some entered) left = place_left left.element entered.end left.end

-- the track that is entered by a port
abbrev pub track_entered : Element → End → Option Place
track_entered (element.Track t) end.A = Some (place.Track t toward.B)
track_entered (element.Track t) end.B = Some (place.Track t toward.A)
track_entered _ _ = None

abbrev pub track_behind : Option Port → Option Place
track_behind None = None
track_behind (Some entered) = track_entered entered.element entered.end

-- ---- what is joined, and what stands at a port

unfoldable pub is_port : Port → Port → Bool
is_port p q = same_port p q

-- the other port of a joint, if this port stands in it
abbrev pub other_port : Joint → Port → Option Port
other_port joint p = if is_port joint.first p then Some joint.second else if is_port joint.second p then Some joint.first else None

-- the port that is joined to a port
abbrev pub beyond : List Joint → Port → Option Port
beyond [] p = None
beyond (joint ∷ joints) p = option_or (other_port joint p) (beyond joints p)

-- the signal that stands at a port, of the signals from the n-th on
abbrev pub signal_from : ℕ → List Signal → Port → Option ℕ
signal_from n [] p = None
signal_from n (signal ∷ signals) p = if is_port signal.at p then Some n else signal_from (suc n) signals p

-- two ports are there, and the same
abbrev pub is_same_port : Option Port → Option Port → Bool
is_same_port (Some p) (Some q) = is_port p q
is_same_port _ _ = false
