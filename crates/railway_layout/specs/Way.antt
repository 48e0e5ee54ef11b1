-- The tracks between a lock and a border.
use Rattle.std.specs.Prelude.{◌==◌, ◌+◌, ℕ, zero, suc, Bool, true, false, List, [], ◌∷◌, ◌++◌, length, Option, Some, None, if◌then◌else◌}
use Rattle.std.specs.Option.{option_and_then, option_or}
use Rattle.layout_text.specs.declared.entries.End.{End}
use Rattle.layout_text.specs.declared.entries.End.TheVariants as end
use Rattle.control_table.specs.sci_telegram.declared.message.Side.TheVariants as side
use Rattle.control_table.specs.layout.Entries.{Site}
use Rattle.control_table.specs.layout.Known.{same_port}
use Rattle.control_table.specs.layout.declared.entries.Joint.{Joint}
use Rattle.control_table.specs.layout.declared.ids.BorderId.{BorderId}
use Rattle.control_table.specs.layout.declared.ids.PointId.{PointId}
use Rattle.control_table.specs.layout.declared.ids.TrackId.{TrackId}
use Rattle.control_table.specs.layout.declared.port.Element.{Element}
use Rattle.control_table.specs.layout.declared.port.Element.TheVariants as element
use Rattle.control_table.specs.layout.declared.port.Port.{Port}
use Rattle.control_table.specs.Sides.{leg}

-- the other port of a joint, if this port stands in it
abbrev pub other_port : Joint → Port → Option Port
other_port joint p = if same_port joint.first p then Some joint.second else if same_port joint.second p then Some joint.first else None

-- the port to which a port is joined
abbrev pub joined_to : List Joint → Port → Option Port
joined_to [] p = None
joined_to (joint ∷ joints) p = option_or (other_port joint p) (joined_to joints p)

-- the other end of a track
abbrev pub far_end : End → End
far_end end.A = end.B
far_end _ = end.A

-- the track that is entered at an end, and the port by which it is left; or nothing where it is no track
abbrev pub track_entered : Element → End → Option (TrackId × Port)
track_entered (element.Track t) at = Some (t, record { element = element.Track t; end = far_end at })
track_entered _ at = None

-- the track behind a port
abbrev pub track_behind : List Joint → Port → Option (TrackId × Port)
track_behind joints p = option_and_then (λ q. track_entered q.element q.end) (joined_to joints p)

abbrev pub is_border_element : BorderId → Element → Bool
is_border_element b (element.Border c) = c.0 == b.0
is_border_element b _ = false

-- the border stands at a port, if there is one
abbrev pub is_border : BorderId → Option Port → Bool
is_border b None = false
is_border b (Some p) = is_border_element b p.element

-- the tracks from a port to a border, at most so many, behind those before
unfoldable pub way_on : List Joint → BorderId → (most : ℕ) → Port → (before : List TrackId) → Option (List TrackId)
way_on joints b zero p before = None
way_on joints b (suc most) p before =
    if is_border b (joined_to joints p) then Some before
    else option_and_then (λ behind. way_on joints b most behind.1 (before ++ behind.0 ∷ [])) (track_behind joints p)

-- the tracks from the right leg of a lock to a border, one after the other; none where something else lies between
abbrev pub way : Site → BorderId → PointId → Option (List TrackId)
way l b lock = way_on l.joints b (length l.tracks + 1) (leg lock side.Right) []
