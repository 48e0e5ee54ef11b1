-- What is told of the stations: what the check of each layout says, under a heading.
use Rattle.std.specs.Prelude.{ℕ, ◌+◌, not, List, [], ◌∷◌, ◌++◌, codes, Option, Some, None, slice_get}
use Rattle.railway_layout.specs.Written.{StationText}
use Rattle.railway_check.specs.Verdicts.{VerdictState, is_sound, told_if}

-- the line before what is told of a station: its name, and the file of its layout as the text has it
abbrev pub heading : StationText → List ℕ
heading station = codes "station " ++ (station.name ++ (codes " " ++ (station.layout ++ codes "\n")))

abbrev pub headed : StationText → List ℕ → List ℕ
headed station told = heading station ++ told

-- the report on a station whose layout is sound, and what is wrong with one whose layout isn't
abbrev pub report_of : StationText → VerdictState → List ℕ
report_of station verdict = told_if (is_sound verdict) (headed station verdict.out)

abbrev pub faults_of : StationText → VerdictState → List ℕ
faults_of station verdict = told_if (not (is_sound verdict)) (headed station verdict.err)

-- what is told of the station of a number, by the verdict of this number
abbrev pub told_by : (StationText → VerdictState → List ℕ) → StationText → Option VerdictState → List ℕ
told_by told station None = []
told_by told station (Some verdict) = told station verdict

abbrev pub report_at : List VerdictState → ℕ → StationText → List ℕ
report_at verdicts n station = told_by report_of station (slice_get verdicts n)

abbrev pub faults_at : List VerdictState → ℕ → StationText → List ℕ
faults_at verdicts n station = told_by faults_of station (slice_get verdicts n)

-- the texts of the entries of a list, one after the other, where the first is the n-th, counted from 0
unfoldable pub each_from : {A : Type 0} → (ℕ → A → List ℕ) → ℕ → List A → List ℕ
each_from text n [] = []
each_from text n (x ∷ xs) = text n x ++ each_from text (n + 1) xs

-- all reports, and all that is wrong, in the order of the railway's text
abbrev pub all_reports : List VerdictState → List StationText → List ℕ
all_reports verdicts stations = each_from (report_at verdicts) 0 stations

abbrev pub all_faults : List VerdictState → List StationText → List ℕ
all_faults verdicts stations = each_from (faults_at verdicts) 0 stations
