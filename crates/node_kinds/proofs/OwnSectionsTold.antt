-- The sections of a detector by their names.
use Rattle.std.proofs.Common.{◌≡◌, sym, ap, ◌∙◌, ℕ, ◌+◌, ◌<◌, ◌≤◌, List, [], ◌∷◌, ◌++◌, length, take, get_or, min, arith, subst}
use Rattle.std.specs.List.{zip}
use Rattle.std.proofs.lemmas.List.{get_or-map, get_or_read, length-map, take_all, take_more}
use Rattle.std.proofs.lemmas.Slice.Zip.{get_or-zip, length-zip}
use Rattle.simulator_spec.specs.layout.Entries.{DetectorEntry, Site}
use Rattle.simulator_spec.specs.layout.Station.{IsDetectorOf, IsStation}
use Rattle.simulator_spec.specs.layout.declared.ids.SectionId.{SectionId}
use Rattle.simulator_spec.specs.sci_telegram.declared.message.Occupancy.{Occupancy}
use Rattle.node_kinds.specs.Made.{own_names}

-- one more pair
zipped_on : {A B : Type 0} (xs : List A) (ys : List B) (place : ℕ) (x : A) (y : B) → place < length xs → place < length ys → x ≡ get_or xs place x → y ≡ get_or ys place y
    → take (place + 1) (zip xs ys) ≡ take place (zip xs ys) ++ (x, y) ∷ []
zipped_on {A} {B} xs ys place x y in_first in_second x_is y_is =
    take_more (zip xs ys) place (x, y) (omega (arith, length-zip xs ys, in_first, in_second))
    ∙ ap (λ (last : A × B). take place (zip xs ys) ++ last ∷ [])
    (get_or-zip xs ys place (x, y) in_first in_second ∙ ap (λ (a : A). (a, get_or ys place y)) (sym x_is) ∙ ap (λ (b : B). (x, b)) (sym y_is))

-- one more section is named
pub named_on : (site : Site) (own : List SectionId) (sensed : List Occupancy) (place : ℕ) (section : SectionId) (names : List (List ℕ)) (name : List ℕ) (occupancy : Occupancy) (named new : List (List ℕ × Occupancy))
    → place < length own → place < length sensed → section ≡ get_or own place section → names ≡ site.sections → section.0 < length names → name ≡ get_or names section.0 name → occupancy ≡ get_or sensed place occupancy
    → named ≡ take place (zip (own_names site own) sensed) → new ≡ named ++ (name, occupancy) ∷ [] → new ≡ take (place + 1) (zip (own_names site own) sensed)
named_on site own sensed place section names name occupancy named new in_own in_sensed section_is names_are there name_is occupancy_is so_far new_is =
    let called : SectionId → List ℕ = λ one. get_or site.sections one.0 []
    in let read : name ≡ called section = get_or_read names section.0 name there name_is [] ∙ ap (λ (all : List (List ℕ)). get_or all section.0 []) names_are
    in let at : name ≡ get_or (own_names site own) place name = read ∙ ap called section_is ∙ sym (get_or-map called own place section name in_own)
    in new_is ∙ ap (λ all. all ++ (name, occupancy) ∷ []) so_far
    ∙ sym (zipped_on (own_names site own) sensed place name occupancy (omega (arith, in_own, length-map own called)) in_sensed at occupancy_is)

-- all are named
pub all_named : (site : Site) (own : List SectionId) (sensed : List Occupancy) (count : ℕ) → min (length own) (length sensed) ≤ count
    → take count (zip (own_names site own) sensed) ≡ zip (own_names site own) sensed
all_named site own sensed count enough =
    take_all count (zip (own_names site own) sensed) (omega (arith, enough, length-zip (own_names site own) sensed, length-map own (λ (one : SectionId). get_or site.sections one.0 [])))

-- ---- a detector that is made

-- it has 16 sections at most
pub few_named : (site layout : Site) (detectors : List DetectorEntry) (place : ℕ) (entry : DetectorEntry) (own : List SectionId) (sensed : List Occupancy) (named : List (List ℕ × Occupancy))
    → IsStation site → detectors ≡ site.detectors → place < length site.detectors → entry ≡ get_or detectors place entry → own ≡ entry.sections → named ≡ zip (own_names layout own) sensed → length named ≤ 16
few_named site layout detectors place entry own sensed named station detectors_are within entry_is own_is named_is =
    let is : entry ≡ get_or site.detectors place entry = entry_is ∙ ap (λ (all : List DetectorEntry). get_or all place entry) detectors_are
    in let has : IsDetectorOf site entry = subst (IsDetectorOf site) (sym is) (station.detectors place entry within)
    in omega (arith, ap length named_is, length-zip (own_names layout own) sensed, length-map own (λ (one : SectionId). get_or layout.sections one.0 []), ap length own_is, has.few)
