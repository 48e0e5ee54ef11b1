-- What the texts of the stations' layouts were found to be.
use Rattle.std.specs.Prelude.{◌≡◌, ℕ, Bool, List, [], ◌∷◌, Option, Some, None, Ok, Err, slice_get}
use Rattle.std.specs.List.{position}
use Rattle.std.specs.Option.{option_and_then}
use Rattle.std.specs.Str.{bytes_eq}
use Rattle.control_table.specs.layout.Entries.{Site}
use Rattle.layout_text.specs.FirstFault.{Read}
use Rattle.control_table.specs.layout.NamesResolved.{layout_in}
use Rattle.control_table.specs.Faults.{IsFirstFault}
use Rattle.control_table.specs.Table.{Sound}
use Rattle.railway_layout.specs.declared.found.Found.{Found}
use Rattle.railway_layout.specs.declared.found.Found.TheVariants.{Table, NoLayout, Unsound}
use Rattle.railway_layout.specs.declared.found.RailwayStation.{RailwayStation}
use Rattle.railway_layout.specs.Written.{StationText}

-- ---- what is found

-- What a text is that is read so: a layout with a sound table, a layout whose table has this first fault, or no layout, with this
-- first fault.
abbrev pub IsOf : Read Site → Found → Type 0
IsOf (Ok l) (Table m) = (m ≡ l) × Sound l
IsOf (Ok l) (NoLayout fault) = ⊥
IsOf (Ok l) (Unsound fault) = IsFirstFault l fault
IsOf (Err fault) (Table m) = ⊥
IsOf (Err fault) (NoLayout other) = other ≡ fault
IsOf (Err fault) (Unsound why) = ⊥

abbrev pub IsFound : List ℕ → Found → Type 0
IsFound text found = IsOf (layout_in text) found

pub record IsStationOf (written : StationText) (text : List ℕ) (station : RailwayStation) : Type 0 where
  pub name : station.name ≡ written.name
  pub found : IsFound text station.found

-- Each station of a railway's text, with what the text of its layout was found to be.
abbrev pub AreStations : List StationText → List (List ℕ) → List RailwayStation → Type 0
AreStations [] [] [] = Unit {0}
AreStations (written ∷ rest) (text ∷ texts) (station ∷ stations) = IsStationOf written text station × AreStations rest texts stations
AreStations _ _ _ = ⊥

-- ---- looking a station up

abbrev pub is_called : List ℕ → RailwayStation → Bool
is_called name station = bytes_eq station.name name

-- the number of the station of a name, counted from 0
abbrev pub station_named : List RailwayStation → List ℕ → Option ℕ
station_named stations name = position (is_called name) stations

-- the layout, where its table is sound
abbrev pub layout_of : Found → Option Site
layout_of (Table l) = Some l
layout_of _ = None

abbrev pub site_at : List RailwayStation → ℕ → Option Site
site_at stations n = option_and_then (λ station. layout_of station.found) (slice_get stations n)
