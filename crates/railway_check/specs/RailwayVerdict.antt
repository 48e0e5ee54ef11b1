-- What a check says of a railway.
use Rattle.std.specs.Prelude.{◌≡◌, ◌&&◌, ℕ, Bool, true, false, List, [], ◌∷◌, ◌++◌}
use Rattle.std.specs.List.{list_all}
use Rattle.railway_layout.specs.declared.fault.RailwayFault.{RailwayFault}
use Rattle.railway_layout.specs.declared.fault.TextFault.{TextFault}
use Rattle.railway_layout.specs.declared.found.RailwayStation.{RailwayStation}
use Rattle.railway_layout.specs.Faults.{railway_faults}
use Rattle.railway_layout.specs.Railway.{IsRailway}
use Rattle.railway_layout.specs.States.{RailwayState}
use Rattle.railway_layout.specs.Stations.{AreStations}
use Rattle.railway_layout.specs.Written.{RailwayText}
use Rattle.railway_check.specs.FaultLines.{all_told, text_fault_lines}
use Rattle.railway_check.specs.StationTexts.{all_faults, all_reports}
use Rattle.railway_check.specs.Summary.{summary}
use Rattle.railway_check.specs.Verdicts.{VerdictState, is_sound, status_of, told_if}

-- ---- what is wrong

-- the railway can be made
abbrev pub HasRailway : RailwayText → List (List ℕ) → Type 0
HasRailway text layouts = (railway : RailwayState) × IsRailway text layouts railway

-- these are all faults of the railway
abbrev pub HasFaults : RailwayText → List (List ℕ) → List RailwayFault → Type 0
HasFaults text layouts faults = (stations : List RailwayStation) × AreStations text.stations layouts stations × (faults ≡ railway_faults stations text.lines)

-- What is wrong with a railway whose layouts have these texts. Where it is nothing, the railway can be made.
abbrev pub AreFaults : RailwayText → List (List ℕ) → List RailwayFault → Type 0
AreFaults text layouts [] = HasRailway text layouts
AreFaults text layouts (f ∷ faults) = HasFaults text layouts (f ∷ faults)

-- ---- what is told

abbrev pub is_nothing : List RailwayFault → Bool
is_nothing [] = true
is_nothing (f ∷ faults) = false

-- each check says that nothing is wrong
abbrev pub are_sound : List VerdictState → Bool
are_sound verdicts = list_all is_sound verdicts

-- nothing is wrong with the railway, and each check of a layout says so too
abbrev pub is_all_sound : List RailwayFault → List VerdictState → Bool
is_all_sound faults verdicts = is_nothing faults && are_sound verdicts

-- the reports on the stations, and where all is sound, how many stations and lines there are, and each line with its ends
abbrev pub told_out : RailwayText → List VerdictState → Bool → List ℕ
told_out text verdicts sound = all_reports verdicts text.stations ++ told_if sound (summary text)

-- what is wrong with the layouts, and then with the railway
abbrev pub told_err : Bool → RailwayText → List VerdictState → List RailwayFault → List ℕ
told_err explained text verdicts faults = all_faults verdicts text.stations ++ all_told explained text faults

abbrev pub verdict_by : Bool → RailwayText → List VerdictState → List RailwayFault → VerdictState
verdict_by explained text verdicts faults =
    let sound : Bool = is_all_sound faults verdicts in
    record { status = status_of sound; out = told_out text verdicts sound; err = told_err explained text verdicts faults }

-- The verdict on a railway whose layouts have these texts, where the checks of these say so.
abbrev pub IsVerdict : Bool → RailwayText → List (List ℕ) → List VerdictState → VerdictState → Type 0
IsVerdict explained text layouts verdicts verdict = (faults : List RailwayFault) × AreFaults text layouts faults × (verdict ≡ verdict_by explained text verdicts faults)

-- The verdict on a text that is no railway's: its first fault is told.
abbrev pub text_verdict : Bool → TextFault → VerdictState
text_verdict explained fault = record { status = 1; out = []; err = text_fault_lines explained fault }
