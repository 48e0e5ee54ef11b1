-- The two ends of a line of a sound railway are at two stations.
use Rattle.std.proofs.Common.{◌≡◌, ◌+◌, ℕ, Bool, true, false, List, [], ◌∷◌, ◌++◌, Some, None, if◌then◌else◌, refl, subst}
use Rattle.std.specs.Prelude.{find}
use Rattle.railway_check.specs.railway_layout.declared.fault.RailwayFault.{RailwayFault}
use Rattle.railway_check.specs.railway_layout.declared.found.RailwayStation.{RailwayStation}
use Rattle.railway_check.specs.railway_layout.Faults.{all_line_faults, all_station_faults, each_from, ends_faults, head_faults, is_at_one_station, is_line_called, line_faults, railway_faults, told}
use Rattle.railway_check.specs.railway_layout.Written.{LineText, RailwayText}
use Rattle.railway_check.specs.RailwayVerdict.{HasRailway}

no_cons : {A : Type 0} (x : A) (xs : List A) → x ∷ xs ≡ [] → ⊥
no_cons x xs e = cc

front_empty : {A : Type 0} (xs ys : List A) → xs ++ ys ≡ [] → xs ≡ []
front_empty [] ys e = refl
front_empty (x ∷ xs) ys e = absurd (no_cons x (xs ++ ys) e)

rest_empty : {A : Type 0} (xs ys : List A) → xs ++ ys ≡ [] → ys ≡ []
rest_empty [] ys e = e
rest_empty (x ∷ xs) ys e = absurd (no_cons x (xs ++ ys) e)

-- a front and a second part are nothing where all is
second_empty : {A : Type 0} (xs ys zs : List A) → xs ++ (ys ++ zs) ≡ [] → ys ≡ []
second_empty xs ys zs e = front_empty ys zs (rest_empty xs (ys ++ zs) e)

untold : (wrong : Bool) (one : RailwayFault) → told wrong one ≡ [] → wrong ≡ false
untold true one e = absurd (no_cons one [] e)
untold false one e = refl

none_some : {A : Type 0} (x : A) → None ≡ Some x → ⊥
none_some x e = cc

some_same : {A : Type 0} (x y : A) → Some x ≡ Some y → x ≡ y
some_same x y e = cc

-- the line that is found is one of which nothing is told
line_apart : (stations : List RailwayStation) (all : List LineText) (n : ℕ) (x : LineText) → line_faults stations all n x ≡ [] → is_at_one_station x ≡ false
line_apart stations all n x e = untold (is_at_one_station x) _ (second_empty _ _ _ (front_empty (head_faults stations all n x) (ends_faults stations all n x) e))

first_found : (p : LineText → Bool) (P : LineText → Type 0) (x line : LineText) (xs : List LineText) (passes : Bool) → P x → (find p xs ≡ Some line → P line)
    → (if passes then Some x else find p xs) ≡ Some line → P line
first_found p P x line xs true here later found = subst P (some_same x line found) here
first_found p P x line xs false here later found = later found

lines_apart : (stations : List RailwayStation) (all : List LineText) (name : List ℕ) (line : LineText) (n : ℕ) (lines : List LineText)
    → each_from (line_faults stations all) n lines ≡ [] → find (is_line_called name) lines ≡ Some line → is_at_one_station line ≡ false
unfolding each_from
lines_apart stations all name line n [] e found = absurd (none_some line found)
lines_apart stations all name line n (x ∷ xs) e found =
    first_found (is_line_called name) (λ l. is_at_one_station l ≡ false) x line xs (is_line_called name x)
    (line_apart stations all n x (front_empty (line_faults stations all n x) (each_from (line_faults stations all) (n + 1) xs) e))
    (lines_apart stations all name line (n + 1) xs (rest_empty (line_faults stations all n x) (each_from (line_faults stations all) (n + 1) xs) e))
    found

faults_apart : (stations : List RailwayStation) (lines : List LineText) (name : List ℕ) (line : LineText)
    → railway_faults stations lines ≡ [] → find (is_line_called name) lines ≡ Some line → is_at_one_station line ≡ false
unfolding railway_faults
faults_apart stations lines name line e found = lines_apart stations lines name line 0 lines (rest_empty (all_station_faults stations) (all_line_faults stations lines) e) found

pub ends_apart : (text : RailwayText) (layouts : List (List ℕ)) (name : List ℕ) (line : LineText)
    → HasRailway text layouts → find (is_line_called name) text.lines ≡ Some line → is_at_one_station line ≡ false
ends_apart text layouts name line has found = faults_apart has.0.stations text.lines name line has.1.nothing_wrong found
