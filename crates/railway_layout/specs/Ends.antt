-- What the names of a line's end stand for.
use Rattle.std.specs.Prelude.{ℕ, Bool, List, Option, Some, None}
use Rattle.std.specs.List.{filter_map, position}
use Rattle.std.specs.Option.{option_and_then, option_map}
use Rattle.std.specs.Str.{bytes_eq}
use Rattle.control_table.specs.layout.Entries.{Site}
use Rattle.control_table.specs.layout.declared.entries.Point.{Point}
use Rattle.control_table.specs.layout.declared.ids.BorderId.{BorderId}
use Rattle.control_table.specs.layout.declared.ids.PointId.{PointId}
use Rattle.control_table.specs.layout.declared.ids.SectionId.{SectionId}
use Rattle.railway_layout.specs.declared.found.RailwayStation.{RailwayStation}
use Rattle.railway_layout.specs.declared.ids.StationId.{StationId}
use Rattle.railway_layout.specs.States.{EndState, LineState}
use Rattle.railway_layout.specs.Stations.{site_at, station_named}
use Rattle.railway_layout.specs.Written.{EndText, LineText}

-- the place of a name among others
abbrev pub place_of : List (List ℕ) → List ℕ → Option ℕ
place_of names name = position (λ other. bytes_eq other name) names

abbrev pub point_place : List Point → List ℕ → Option ℕ
point_place points name = position (λ point. bytes_eq point.name name) points

abbrev pub border_named : Site → List ℕ → Option BorderId
border_named l name = option_map (λ n. record { 0 = n }) (place_of l.borders name)

abbrev pub lock_named : Site → List ℕ → Option PointId
lock_named l name = option_map (λ n. record { 0 = n }) (point_place l.points name)

abbrev pub section_named : Site → List ℕ → Option SectionId
section_named l name = option_map (λ n. record { 0 = n }) (place_of l.sections name)

-- the sections of a part that are there
abbrev pub part_in : Site → List (List ℕ) → List SectionId
part_in l names = filter_map (section_named l) names

abbrev pub made : Site → StationId → EndText → BorderId → PointId → SectionId → EndState
made l s e border lock clear = record { station = s; border = border; lock = lock; clear = clear; part = part_in l e.part; id = e.id }

-- the border, the lock and the section that an end names, where all three are there
abbrev pub named_in : Site → EndText → Option (BorderId × PointId × SectionId)
named_in l e =
    option_and_then (λ border. option_and_then (λ lock. option_map (λ clear. (border, lock, clear))
    (section_named l e.clear)) (lock_named l e.lock)) (border_named l e.border)

-- an end at a station with this layout, where these are there
unfoldable pub end_in : Site → StationId → EndText → Option EndState
end_in l s e = option_map (λ named. made l s e named.0 named.1 named.2) (named_in l e)

-- an end, where its station is there and has a sound table, and what else it names is there
abbrev pub end_at : List RailwayStation → ℕ → EndText → Option EndState
end_at stations n e = option_and_then (λ l. end_in l (record { 0 = n }) e) (site_at stations n)

unfoldable pub end_of : List RailwayStation → EndText → Option EndState
end_of stations e = option_and_then (λ n. end_at stations n e) (station_named stations e.station)

unfoldable pub line_of : List RailwayStation → LineText → Option LineState
line_of stations line =
    option_and_then (λ first. option_map (λ second. record { name = line.name; first = first; second = second })
    (end_of stations line.second)) (end_of stations line.first)
