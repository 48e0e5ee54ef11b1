-- A line with which nothing is wrong is there: all that its ends name was found.
use Rattle.std.proofs.Common.{◌≡◌, ◌<◌, ◌+◌, ℕ, zero, suc, List, [], ◌∷◌, ◌++◌, Option, Some, None, IsSome, arith, get_or, length, refl, subst, sym}
use Rattle.std.specs.Option.{option_and_then, option_map}
use Rattle.control_table.specs.layout.Entries.{Site}
use Rattle.control_table.specs.layout.declared.ids.BorderId.{BorderId}
use Rattle.control_table.specs.layout.declared.ids.PointId.{PointId}
use Rattle.control_table.specs.layout.declared.ids.SectionId.{SectionId}
use Rattle.railway_layout.specs.declared.fault.Place.{Place}
use Rattle.railway_layout.specs.declared.fault.Place.TheVariants.{First, Second}
use Rattle.railway_layout.specs.declared.fault.RailwayFault.{RailwayFault}
use Rattle.railway_layout.specs.declared.found.RailwayStation.{RailwayStation}
use Rattle.railway_layout.specs.declared.ids.StationId.{StationId}
use Rattle.railway_layout.specs.Ends.{border_named, end_at, end_in, end_of, line_of, lock_named, made, named_in, section_named}
use Rattle.railway_layout.specs.Faults.{all_line_faults, all_station_faults, each_from, end_faults, head_faults, is_missing, layout_faults, line_faults, names_faults, part_faults, place_faults, railway_faults, rule_faults_if, shared_faults, site_faults, told}
use Rattle.railway_layout.specs.declared.fault.RailwayFault.TheVariants as fault
use Rattle.railway_layout.specs.States.{EndState, LineState}
use Rattle.railway_layout.specs.Stations.{site_at, station_named}
use Rattle.railway_layout.specs.Written.{EndText, LineText}

-- ---- nothing is told of a list where nothing is told of its parts

pub no_cons : {A : Type 0} (x : A) (xs : List A) → x ∷ xs ≡ [] → ⊥
no_cons x xs e = cc

pub front_empty : {A : Type 0} (xs ys : List A) → xs ++ ys ≡ [] → xs ≡ []
front_empty [] ys e = refl
front_empty (x ∷ xs) ys e = absurd (no_cons x (xs ++ ys) e)

pub rest_empty : {A : Type 0} (xs ys : List A) → xs ++ ys ≡ [] → ys ≡ []
rest_empty [] ys e = e
rest_empty (x ∷ xs) ys e = absurd (no_cons x (xs ++ ys) e)

-- nothing is told of each entry
pub each_empty : {A : Type 0} (faults : ℕ → A → List RailwayFault) (n : ℕ) (xs : List A) (i : ℕ) (d : A) → i < length xs → each_from faults n xs ≡ [] → faults (n + i) (get_or xs i d) ≡ []
unfolding each_from
each_empty faults n [] i d lt e = absurd (omega arith)
each_empty faults n (x ∷ xs) zero d lt e =
    let here : faults n x ≡ [] = front_empty (faults n x) (each_from faults (n + 1) xs) e in
    let same : n ≡ n + 0 = omega arith in
    let E : ℕ → Type 0 = λ m. faults m x ≡ [] in
    subst E same here
each_empty faults n (x ∷ xs) (suc i) d lt e =
    let on : faults (n + 1 + i) (get_or xs i d) ≡ [] = each_empty faults (n + 1) xs i d (omega arith) (rest_empty (faults n x) (each_from faults (n + 1) xs) e) in
    let same : n + 1 + i ≡ n + suc i = omega arith in
    let E : ℕ → Type 0 = λ m. faults m (get_or xs i d) ≡ [] in
    subst E same on

-- ---- what is there

no_some : {A : Type 0} (x : A) → Some x ≡ None → ⊥
no_some x e = cc

is_there : {A : Type 0} (o : Option A) → (o ≡ None → ⊥) → IsSome o
is_there None h = absurd (h refl)
is_there (Some x) h = refl

none_before : {A B : Type 0} (f : A → B) (o : Option A) → option_map f o ≡ None → o ≡ None
none_before f None e = refl
none_before f (Some x) e = absurd (no_some (f x) e)

abbrev triple : BorderId → PointId → SectionId → BorderId × PointId × SectionId
triple border lock clear = (border, lock, clear)

names_there : (border : Option BorderId) (lock : Option PointId) (clear : Option SectionId) (a b c : RailwayFault) (rest : List RailwayFault)
    → told (is_missing border) a ++ (told (is_missing lock) b ++ (told (is_missing clear) c ++ rest)) ≡ []
    → option_and_then (λ x. option_and_then (λ y. option_map (triple x y) clear) lock) border ≡ None → ⊥
names_there None lock clear a b c rest h e = no_cons a _ h
names_there (Some x) None clear a b c rest h e = no_cons b _ h
names_there (Some x) (Some y) None a b c rest h e = no_cons c rest h
names_there (Some x) (Some y) (Some z) a b c rest h e = no_some (triple x y z) e

layout_there : (place : Place) (l : Site) (s : StationId) (e : EndText) → layout_faults place l s e ≡ [] → end_in l s e ≡ None → ⊥
unfolding end_in
layout_there place l s e h none =
    names_there (border_named l e.border) (lock_named l e.lock) (section_named l e.clear) (fault.UnknownName place e.border) (fault.UnknownName place e.lock) (fault.UnknownName place e.clear) (part_faults place l e.part)
    (front_empty (names_faults place l e) (rule_faults_if place l (end_in l s e)) h) (none_before (λ named. made l s e named.0 named.1 named.2) (named_in l e) none)

site_there : (place : Place) (s : StationId) (e : EndText) (o : Option Site) → site_faults place s e o ≡ [] → option_and_then (λ l. end_in l s e) o ≡ None → ⊥
site_there place s e None h none = no_cons (fault.Unseen place) [] h
site_there place s e (Some l) h none = layout_there place l s e h none

place_there : (stations : List RailwayStation) (place : Place) (e : EndText) (o : Option ℕ) → place_faults stations place e o ≡ [] → option_and_then (λ n. end_at stations n e) o ≡ None → ⊥
place_there stations place e None h none = no_cons (fault.UnknownName place e.station) [] h
place_there stations place e (Some n) h none = site_there place (record { 0 = n }) e (site_at stations n) h none

end_there : (stations : List RailwayStation) (place : Place) (e : EndText) → end_faults stations place e ≡ [] → end_of stations e ≡ None → ⊥
unfolding end_faults end_of
end_there stations place e h none = place_there stations place e (station_named stations e.station) h none

both_there : {A : Type 0} (make : EndState → EndState → A) (first second : Option EndState) → (first ≡ None → ⊥) → (second ≡ None → ⊥) → option_and_then (λ x. option_map (λ y. make x y) second) first ≡ None → ⊥
both_there make None second h k e = h refl
both_there make (Some x) None h k e = k refl
both_there make (Some x) (Some y) h k e = no_some (make x y) e

-- nothing is told of the ends of a line of which nothing is told
pub ends_empty : (stations : List RailwayStation) (lines : List LineText) (n : ℕ) (line : LineText) → line_faults stations lines n line ≡ []
    → (end_faults stations (First (n + 1)) line.first ≡ []) × (end_faults stations (Second (n + 1)) line.second ≡ [])
ends_empty stations lines n line h =
    let first : Place = First (n + 1) in
    let second : Place = Second (n + 1) in
    let taken : List RailwayFault = shared_faults first lines n line.first in
    let taken_second : List RailwayFault = shared_faults second lines n line.second in
    let of_first : List RailwayFault = end_faults stations first line.first in
    let of_second : List RailwayFault = end_faults stations second line.second in
    let ends : taken ++ (of_first ++ (taken_second ++ of_second)) ≡ [] = rest_empty (head_faults stations lines n line) (taken ++ (of_first ++ (taken_second ++ of_second))) h in
    let behind : of_first ++ (taken_second ++ of_second) ≡ [] = rest_empty taken (of_first ++ (taken_second ++ of_second)) ends in
    let more : taken_second ++ of_second ≡ [] = rest_empty of_first (taken_second ++ of_second) behind in
    (front_empty of_first (taken_second ++ of_second) behind, rest_empty taken_second of_second more)

line_there : (stations : List RailwayStation) (lines : List LineText) (n : ℕ) (line : LineText) → line_faults stations lines n line ≡ [] → line_of stations line ≡ None → ⊥
unfolding line_of
line_there stations lines n line h none =
    let empty = ends_empty stations lines n line h in
    both_there (λ x y. record { name = line.name; first = x; second = y }) (end_of stations line.first) (end_of stations line.second)
    (end_there stations (First (n + 1)) line.first empty.0) (end_there stations (Second (n + 1)) line.second empty.1) none

-- nothing is told of a line of a railway of which nothing is told
pub line_empty : (stations : List RailwayStation) (lines : List LineText) (i : ℕ) (line : LineText) → railway_faults stations lines ≡ [] → i < length lines → line ≡ get_or lines i line → line_faults stations lines (0 + i) line ≡ []
unfolding railway_faults
line_empty stations lines i line h lt at =
    let told_of : line_faults stations lines (0 + i) (get_or lines i line) ≡ [] = each_empty (line_faults stations lines) 0 lines i line lt (rest_empty (all_station_faults stations) (all_line_faults stations lines) h) in
    let E : LineText → Type 0 = λ x. line_faults stations lines (0 + i) x ≡ [] in
    subst E (sym at) told_of

-- each line of a railway with which nothing is wrong
pub lines_there : (stations : List RailwayStation) (lines : List LineText) (i : ℕ) (line : LineText) → railway_faults stations lines ≡ [] → i < length lines → line ≡ get_or lines i line → IsSome (line_of stations line)
lines_there stations lines i line h lt at =
    is_there (line_of stations line) (line_there stations lines (0 + i) line (line_empty stations lines i line h lt at))
