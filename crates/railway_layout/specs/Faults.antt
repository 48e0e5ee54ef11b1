-- All that is wrong with a railway: of each station in the order of the text, and then of each line.
use Rattle.std.specs.Prelude.{◌==◌, ◌&&◌, ◌||◌, ℕ, suc, ◌+◌, Bool, true, false, not, List, [], ◌∷◌, ◌++◌, Option, Some, None, take}
use Rattle.std.specs.List.{flat_map, list_any}
use Rattle.std.specs.Str.{bytes_eq}
use Rattle.control_table.specs.layout.Entries.{RouteEntry, Site}
use Rattle.railway_layout.specs.declared.fault.Place.{Place}
use Rattle.railway_layout.specs.declared.fault.Place.TheVariants.{Station, Line, First, Second}
use Rattle.railway_layout.specs.declared.fault.RailwayFault.{RailwayFault}
use Rattle.railway_layout.specs.declared.fault.RailwayFault.TheVariants as fault
use Rattle.railway_layout.specs.declared.found.Found.{Found}
use Rattle.railway_layout.specs.declared.found.Found.TheVariants as found
use Rattle.railway_layout.specs.declared.found.RailwayStation.{RailwayStation}
use Rattle.railway_layout.specs.declared.ids.StationId.{StationId}
use Rattle.railway_layout.specs.Ends.{border_named, end_in, lock_named, section_named}
use Rattle.railway_layout.specs.Rules.{has_route_in, has_track, is_alone, is_elsewhere, lacks_left, lacks_right}
use Rattle.railway_layout.specs.States.{EndState}
use Rattle.railway_layout.specs.Stations.{is_called, site_at, station_named}
use Rattle.railway_layout.specs.Way.{way}
use Rattle.railway_layout.specs.Written.{EndText, LineText}

-- ---- lists of faults

-- a fault, where something is wrong
abbrev pub told : Bool → RailwayFault → List RailwayFault
told true one = one ∷ []
told false one = []

abbrev pub is_missing : {A : Type 0} → Option A → Bool
is_missing None = true
is_missing (Some x) = false

-- the faults of each entry of a list, where the first is the n-th, counted from 0
unfoldable pub each_from : {A : Type 0} → (ℕ → A → List RailwayFault) → ℕ → List A → List RailwayFault
each_from faults n [] = []
each_from faults n (x ∷ xs) = faults n x ++ each_from faults (n + 1) xs

-- ---- of a station

-- one of these stations has this name
abbrev pub is_called_among : List RailwayStation → List ℕ → Bool
is_called_among stations name = list_any (is_called name) stations

abbrev pub found_faults : Place → Found → List RailwayFault
found_faults place (found.Table l) = []
found_faults place (found.NoLayout why) = fault.Layout place why ∷ []
found_faults place (found.Unsound why) = fault.Table place why ∷ []

abbrev pub station_faults : List RailwayStation → ℕ → RailwayStation → List RailwayFault
station_faults stations n s =
    told (is_called_among (take n stations) s.name) (fault.DoubleName (Station (n + 1)) s.name) ++ found_faults (Station (n + 1)) s.found

-- ---- of what an end names

-- a name is one of these
abbrev pub is_name_among : List (List ℕ) → List ℕ → Bool
is_name_among names name = list_any (λ other. bytes_eq other name) names

-- a name that isn't there, or stands in the part before
abbrev pub part_fault : Place → Site → List (List ℕ) → ℕ → List ℕ → List RailwayFault
part_fault place l part n name =
    told (is_missing (section_named l name)) (fault.UnknownName place name)
    ++ told (is_name_among (take n part) name) (fault.DoubleName place name)

abbrev pub part_faults : Place → Site → List (List ℕ) → List RailwayFault
part_faults place l part = each_from (part_fault place l part) 0 part

abbrev pub names_faults : Place → Site → EndText → List RailwayFault
names_faults place l e =
    told (is_missing (border_named l e.border)) (fault.UnknownName place e.border)
    ++ (told (is_missing (lock_named l e.lock)) (fault.UnknownName place e.lock)
    ++ (told (is_missing (section_named l e.clear)) (fault.UnknownName place e.clear)
    ++ part_faults place l e.part))

-- ---- of an end whose names are there

abbrev pub route_fault : Place → EndState → RouteEntry → List RailwayFault
route_fault place e r =
    told (lacks_right e r) (fault.LockNotRight place r.name) ++ told (lacks_left e r) (fault.LockNotLeft place r.name)

abbrev pub route_faults : Place → EndState → List RouteEntry → List RailwayFault
route_faults place e routes = flat_map (route_fault place e) routes

-- of the section that it tells, and its part
abbrev pub section_faults : Place → Site → EndState → List RailwayFault
section_faults place l e =
    told (not (is_alone e.clear l.detectors)) (fault.ClearNotAlone place) ++ told (not (has_track l e)) (fault.PartLacksTrack place)

-- of its lock, its routes, and the section that it tells
abbrev pub rule_faults : Place → Site → EndState → List RailwayFault
rule_faults place l e =
    told (is_missing (way l e.border e.lock)) (fault.NotJoined place)
    ++ (route_faults place e l.routes
    ++ (told (not (has_route_in e.lock l.routes)) (fault.NoRouteIn place)
    ++ (told (is_elsewhere l e.clear (way l e.border e.lock)) (fault.ClearElsewhere place)
    ++ section_faults place l e)))

-- nothing but the names where one of them isn't there
abbrev pub rule_faults_if : Place → Site → Option EndState → List RailwayFault
rule_faults_if place l None = []
rule_faults_if place l (Some e) = rule_faults place l e

-- ---- of an end

-- at a station with this layout
abbrev pub layout_faults : Place → Site → StationId → EndText → List RailwayFault
layout_faults place l s e = names_faults place l e ++ rule_faults_if place l (end_in l s e)

-- at a station that has no layout with a sound table, this alone is told
abbrev pub site_faults : Place → StationId → EndText → Option Site → List RailwayFault
site_faults place s e None = fault.Unseen place ∷ []
site_faults place s e (Some l) = layout_faults place l s e

-- at the station of this number, if the railway has it
abbrev pub place_faults : List RailwayStation → Place → EndText → Option ℕ → List RailwayFault
place_faults stations place e None = fault.UnknownName place e.station ∷ []
place_faults stations place e (Some n) = site_faults place (record { 0 = n }) e (site_at stations n)

unfoldable pub end_faults : List RailwayStation → Place → EndText → List RailwayFault
end_faults stations place e = place_faults stations place e (station_named stations e.station)

-- ---- of a line

abbrev pub is_line_called : List ℕ → LineText → Bool
is_line_called name line = bytes_eq line.name name

-- one of these lines has this name
abbrev pub is_line_among : List LineText → List ℕ → Bool
is_line_among lines name = list_any (is_line_called name) lines

abbrev pub is_at_one_station : LineText → Bool
is_at_one_station line = bytes_eq line.first.station line.second.station

-- a station, or one of these lines, has this name
abbrev pub is_name_taken : List RailwayStation → List LineText → List ℕ → Bool
is_name_taken stations lines name = is_called_among stations name || is_line_among lines name

-- two ends are at one border
abbrev pub is_at : EndText → EndText → Bool
is_at e other = bytes_eq other.station e.station && bytes_eq other.border e.border

abbrev pub has_border : EndText → LineText → Bool
has_border e line = is_at e line.first || is_at e line.second

-- one of these lines has the border of an end
abbrev pub is_border_taken : List LineText → EndText → Bool
is_border_taken lines e = list_any (has_border e) lines

-- of its name, and of its ends together
abbrev pub head_faults : List RailwayStation → List LineText → ℕ → LineText → List RailwayFault
head_faults stations lines n line =
    told (is_name_taken stations (take n lines) line.name) (fault.DoubleName (Line (n + 1)) line.name)
    ++ (told (is_at_one_station line) (fault.SameStation (Line (n + 1)))
    ++ told (line.first.id == line.second.id) (fault.DoubleId (Line (n + 1))))

-- an end tells a section of the part of another, or of its own
abbrev pub tells_of : EndText → EndText → Bool
tells_of e other = bytes_eq other.station e.station && is_name_among e.part other.clear

abbrev pub tells_part : EndText → LineText → Bool
tells_part e line = tells_of e line.first || tells_of e line.second

-- an end of one of these lines tells a section of the part of an end
abbrev pub is_part_told : List LineText → EndText → Bool
is_part_told lines e = list_any (tells_part e) lines

-- of an end of the n-th line beside all other ends
abbrev pub shared_faults : Place → List LineText → ℕ → EndText → List RailwayFault
shared_faults place lines n e =
    told (is_border_taken (take n lines) e) (fault.DoubleBorder place) ++ told (is_part_told lines e) (fault.PartHasClear place)

-- of each of its ends
abbrev pub ends_faults : List RailwayStation → List LineText → ℕ → LineText → List RailwayFault
ends_faults stations lines n line =
    shared_faults (First (n + 1)) lines n line.first
    ++ (end_faults stations (First (n + 1)) line.first
    ++ (shared_faults (Second (n + 1)) lines n line.second
    ++ end_faults stations (Second (n + 1)) line.second))

abbrev pub line_faults : List RailwayStation → List LineText → ℕ → LineText → List RailwayFault
line_faults stations lines n line = head_faults stations lines n line ++ ends_faults stations lines n line

-- ---- of a railway

abbrev pub all_station_faults : List RailwayStation → List RailwayFault
all_station_faults stations = each_from (station_faults stations) 0 stations

abbrev pub all_line_faults : List RailwayStation → List LineText → List RailwayFault
all_line_faults stations lines = each_from (line_faults stations lines) 0 lines

unfoldable pub railway_faults : List RailwayStation → List LineText → List RailwayFault
railway_faults stations lines = all_station_faults stations ++ all_line_faults stations lines
