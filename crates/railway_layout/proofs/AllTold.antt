-- All that is wrong with a railway is told.
use Rattle.std.proofs.Common.{◌≡◌, ◌≢◌, ◌∙◌, ℕ, List, [], ap, subst}
use Rattle.railway_layout.specs.declared.fault.RailwayFault.{RailwayFault}
use Rattle.railway_layout.specs.declared.found.RailwayStation.{RailwayStation}
use Rattle.railway_layout.specs.Faults.{railway_faults}
use Rattle.railway_layout.specs.Stations.{AreStations}
use Rattle.railway_layout.specs.Written.{LineText, RailwayText, StationText}

-- what is lent of the stations, the lines and the faults is what they are
pub all_told : (text : RailwayText) (layouts : List (List ℕ)) (found lent : List RailwayStation) (written : List StationText) (lines : List LineText) (told shown : List RailwayFault)
    → written ≡ text.stations → lent ≡ found → lines ≡ text.lines → shown ≡ told
    → AreStations written layouts found → told ≡ railway_faults lent lines → shown ≢ []
    → (stations : List RailwayStation) × AreStations text.stations layouts stations × (told ≡ railway_faults stations text.lines) × (told ≢ [])
all_told text layouts found lent written lines told shown of_written of_found of_lines of_told are is some =
    let A : List StationText → Type 0 = λ w. AreStations w layouts found in
    (found, subst A of_written are, is ∙ ap (λ s. railway_faults s lines) of_found ∙ ap (railway_faults found) of_lines, λ none. some (of_told ∙ none))
