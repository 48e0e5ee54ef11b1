-- What is read of a railway whose text is written: the railway, or all that is wrong with it.
use Rattle.std.specs.Prelude.{◌≡◌, ◌≢◌, ℕ, List, [], map, Some}
use Rattle.railway_layout.specs.declared.found.RailwayStation.{RailwayStation}
use Rattle.railway_layout.specs.declared.railway.Refused.{Refused}
use Rattle.railway_layout.specs.declared.railway.Refused.TheVariants.{Faults, OutOfMemory}
use Rattle.railway_layout.specs.Ends.{line_of}
use Rattle.railway_layout.specs.Faults.{railway_faults}
use Rattle.railway_layout.specs.States.{RailwayState}
use Rattle.railway_layout.specs.Stations.{AreStations}
use Rattle.railway_layout.specs.Written.{RailwayText}

-- Nothing is wrong, and the railway has each station with its layout, and each line.
pub record IsRailway (text : RailwayText) (layouts : List (List ℕ)) (railway : RailwayState) : Type 0 where
  pub stations : AreStations text.stations layouts railway.stations
  pub nothing_wrong : railway_faults railway.stations text.lines ≡ []
  pub lines : map (line_of railway.stations) text.lines ≡ map Some railway.lines

-- Something is wrong, and all of that is told.
abbrev pub IsRefused : RailwayText → (layouts : List (List ℕ)) → Refused → Type 0
IsRefused text layouts (Faults faults) =
    (stations : List RailwayStation) × AreStations text.stations layouts stations × (faults.items ≡ railway_faults stations text.lines) × (faults.items ≢ [])
IsRefused text layouts OutOfMemory = Unit {0}
