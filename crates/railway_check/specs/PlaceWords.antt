-- Places in a railway whose text was read, by the names that stand there. Stations and lines are counted from 1.
use Rattle.std.specs.Prelude.{ℕ, ◌-◌, List, [], ◌++◌, codes, slice_get}
use Rattle.std.specs.Option.{option_map, unwrap_or}
use Rattle.railway_layout.specs.declared.fault.Place.{Place}
use Rattle.railway_layout.specs.declared.fault.Place.TheVariants.{Station, Line, First, Second}
use Rattle.railway_layout.specs.Written.{LineText, RailwayText, StationText}

-- what is called so of the n-th of a list
abbrev pub called : {A : Type 0} → (A → List ℕ) → List A → ℕ → List ℕ
called name all n = unwrap_or (option_map name (slice_get all (n - 1))) []

-- the name of a station
abbrev pub station_called : List StationText → ℕ → List ℕ
station_called stations n = called (λ station. station.name) stations n

-- the name of a line
abbrev pub line_called : List LineText → ℕ → List ℕ
line_called lines n = called (λ line. line.name) lines n

-- the names of the stations at which its ends are
abbrev pub first_called : List LineText → ℕ → List ℕ
first_called lines n = called (λ line. line.first.station) lines n

abbrev pub second_called : List LineText → ℕ → List ℕ
second_called lines n = called (λ line. line.second.station) lines n

-- a station, a line, or a line at one of its stations
abbrev pub place_words : RailwayText → Place → List ℕ
place_words railway (Station n) = codes "station " ++ station_called railway.stations n
place_words railway (Line n) = codes "line " ++ line_called railway.lines n
place_words railway (First n) = codes "line " ++ (line_called railway.lines n ++ (codes " at " ++ first_called railway.lines n))
place_words railway (Second n) = codes "line " ++ (line_called railway.lines n ++ (codes " at " ++ second_called railway.lines n))
