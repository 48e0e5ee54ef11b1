-- Each section stands once among those that the detectors report. So what its contact tells comes to one detector, at one
-- place of its own order.
use Rattle.std.proofs.Common.{◌≡◌, ◌≢◌, ℕ, zero, suc, ◌<◌, Bool, true, false, if◌then◌else◌, List, [], ◌∷◌, ◌++◌, length, map, Option, Some, None, slice_get, slice_set, refl, sym, ap, subst, ◌∙◌, arith}
use Rattle.std.specs.Prelude.{◌==◌, slice_index_or}
use Rattle.std.specs.List.{flat_map, zip}
use Rattle.std.proofs.lemmas.Option.{get_or_from_slice_get, none-some, same_Some, slice_get-get_or, slice_get_within}
use Rattle.simulator_spec.specs.sci_telegram.declared.message.Occupancy.{Occupancy}
use Rattle.simulator_spec.specs.sci_telegram.declared.message.Occupancy.TheVariants as occupancies
use Rattle.simulator_spec.specs.layout.declared.ids.SectionId.{SectionId}
use Rattle.simulator_spec.specs.layout.Entries.{DetectorEntry, Site}
use Rattle.simulator_spec.specs.layout.Once.{Distinct}
use Rattle.simulator_spec.specs.layout.Station.{IsStation}
use Rattle.simulator_spec.specs.object_host.declared.input.Input.{Input}
use Rattle.simulator_spec.specs.object_host.declared.input.Input.TheVariants as inputs
use Rattle.simulator_spec.specs.object_host.declared.sense.Sense.TheVariants as sense
use Rattle.simulator_spec.specs.tds_ctl.Controlled.{detection_behaviour}
use Rattle.simulator_spec.specs.tds_ctl.Sections as sections
use Rattle.simulator_spec.specs.ixl_spec.Table.{Table}
use Rattle.simulator_spec.specs.First.{Beginning, host_of, named_section, new_detector}
use Rattle.ixl_table.specs.Table.{IsReportedIn, IsTableOf, as_section}
use Rattle.simulator_node_laws.specs.Lives.{Life, detector_hears, detector_sensing, hears, occupied_after, own_names, own_occupancies}
use Rattle.simulator_node_laws.specs.Told.{to_reporter}
use Rattle.simulator_node_laws.proofs.Lists.{get_set, none_there, other_number, same_number}

-- ---- lists of which no two are the same

abbrev IsIn : {A : Type 0} → List A → A → Type 0
IsIn list one = (place : ℕ) × (slice_get list place ≡ Some one)

apart_behind : {A : Type 0} (first : A) (others : List A) → Distinct (first ∷ others) → Distinct others
apart_behind first others apart = λ i j d before within. apart (suc i) (suc j) d (omega (arith, before)) (omega (arith, within))

first_apart : {A : Type 0} (first : A) (others : List A) (place : ℕ) (other : A) → Distinct (first ∷ others) → slice_get others place ≡ Some other → first ≡ other → ⊥
first_apart first others place other apart is same =
    let within = slice_get_within others place other is
    in apart 0 (suc place) other (omega arith) (omega (arith, within)) (same ∙ sym (get_or_from_slice_get others place other other is))

front_there : {A : Type 0} (xs ys : List A) (place : ℕ) (one : A) → slice_get xs place ≡ Some one → slice_get (xs ++ ys) place ≡ Some one
front_there [] ys place one is = absurd (none-some one is)
front_there (x ∷ xs) ys zero one is = is
front_there (x ∷ xs) ys (suc place) one is = front_there xs ys place one is

in_behind : {A : Type 0} (xs ys : List A) (one : A) → IsIn ys one → IsIn (xs ++ ys) one
in_behind [] ys one there = there
in_behind (x ∷ xs) ys one there = let behind = in_behind xs ys one there in (suc behind.0, behind.1)

behind_apart : {A : Type 0} (xs ys : List A) → Distinct (xs ++ ys) → Distinct ys
behind_apart [] ys apart = apart
behind_apart (x ∷ xs) ys apart = behind_apart xs ys (apart_behind x (xs ++ ys) apart)

-- what stands in the first of two such lists stands at one place of it
one_place : {A : Type 0} (xs ys : List A) (one : A) (i j : ℕ) → Distinct (xs ++ ys) → slice_get xs i ≡ Some one → slice_get xs j ≡ Some one → i ≡ j
one_place [] ys one i j apart at other = absurd (none-some one at)
one_place (x ∷ xs) ys one zero zero apart at other = refl
one_place (x ∷ xs) ys one zero (suc j) apart at other = absurd (first_apart x (xs ++ ys) j one apart (front_there xs ys j one other) (same_Some x one at))
one_place (x ∷ xs) ys one (suc i) zero apart at other = absurd (first_apart x (xs ++ ys) i one apart (front_there xs ys i one at) (same_Some x one other))
one_place (x ∷ xs) ys one (suc i) (suc j) apart at other = ap suc (one_place xs ys one i j (apart_behind x (xs ++ ys) apart) at other)

-- and not in the second
not_both : {A : Type 0} (xs ys : List A) (one : A) (i : ℕ) → Distinct (xs ++ ys) → slice_get xs i ≡ Some one → IsIn ys one → ⊥
not_both [] ys one i apart at there = none-some one at
not_both (x ∷ xs) ys one zero apart at there =
    let behind = in_behind xs ys one there
    in first_apart x (xs ++ ys) behind.0 one apart behind.1 (same_Some x one at)
not_both (x ∷ xs) ys one (suc i) apart at there = not_both xs ys one i (apart_behind x (xs ++ ys) apart) at there

-- ---- the sections of all detectors

abbrev sections_of : List DetectorEntry → List SectionId
sections_of detectors = flat_map (λ d. d.sections) detectors

in_reported : (detectors : List DetectorEntry) (place : ℕ) (detector : DetectorEntry) (section : SectionId) → slice_get detectors place ≡ Some detector → IsIn detector.sections section → IsIn (sections_of detectors) section
in_reported [] place detector section is there = absurd (none-some detector is)
in_reported (first ∷ others) zero detector section is there =
    let stands = subst (λ (d : DetectorEntry). IsIn d.sections section) (sym (same_Some first detector is)) there
    in (stands.0, front_there first.sections (sections_of others) stands.0 section stands.1)
in_reported (first ∷ others) (suc place) detector section is there = in_behind first.sections (sections_of others) section (in_reported others place detector section is there)

-- a section that stands in the lists of two detectors stands in one, at one place
one_detector : (detectors : List DetectorEntry) (p q i j : ℕ) (one other : DetectorEntry) (section : SectionId) → Distinct (sections_of detectors) → slice_get detectors p ≡ Some one → slice_get one.sections i ≡ Some section
    → slice_get detectors q ≡ Some other → slice_get other.sections j ≡ Some section → (p ≡ q) × (i ≡ j)
one_detector [] p q i j one other section apart at here found there = absurd (none-some one at)
one_detector (first ∷ others) zero zero i j one other section apart at here found there = (
  refl,
  one_place first.sections (sections_of others) section i j apart
      (subst (λ (d : DetectorEntry). slice_get d.sections i ≡ Some section) (sym (same_Some first one at)) here)
      (subst (λ (d : DetectorEntry). slice_get d.sections j ≡ Some section) (sym (same_Some first other found)) there),
)
one_detector (first ∷ others) zero (suc q) i j one other section apart at here found there = absurd (not_both first.sections (sections_of others) section i apart
    (subst (λ (d : DetectorEntry). slice_get d.sections i ≡ Some section) (sym (same_Some first one at)) here)
    (in_reported others q other section found (j, there)))
one_detector (first ∷ others) (suc p) zero i j one other section apart at here found there = absurd (not_both first.sections (sections_of others) section j apart
    (subst (λ (d : DetectorEntry). slice_get d.sections j ≡ Some section) (sym (same_Some first other found)) there)
    (in_reported others p one section at (i, here)))
one_detector (first ∷ others) (suc p) (suc q) i j one other section apart at here found there =
    let same = one_detector others p q i j one other section (behind_apart first.sections (sections_of others) apart) at here found there
    in (ap suc same.0, same.1)

-- ---- what a detector knows of its own sections

index_other : {A : Type 0} (list : List A) (place other : ℕ) (one otherwise : A) → other ≢ place → slice_index_or (slice_set list place one) other otherwise ≡ slice_index_or list other otherwise
index_other [] place other one otherwise differ = refl
index_other (first ∷ others) zero zero one otherwise differ = absurd (differ refl)
index_other (first ∷ others) zero (suc other) one otherwise differ = refl
index_other (first ∷ others) (suc place) zero one otherwise differ = refl
index_other (first ∷ others) (suc place) (suc other) one otherwise differ = index_other others place other one otherwise (λ same. differ (ap suc same))

set_none : {A : Type 0} (list : List A) (place : ℕ) (one : A) → slice_get list place ≡ None → slice_set list place one ≡ list
set_none [] place one is = refl
set_none (first ∷ others) zero one is = absurd (none-some first (sym is))
set_none (first ∷ others) (suc place) one is = ap (λ l. first ∷ l) (set_none others place one is)

-- a section that isn't its own
untouched : (occupied : List Occupancy) (own : List SectionId) (section : ℕ) (occupancy : Occupancy) → (IsIn own (as_section section) → ⊥)
    → own_occupancies (slice_set occupied section occupancy) own ≡ own_occupancies occupied own
untouched occupied [] section occupancy absent = refl
untouched occupied (first ∷ others) section occupancy absent =
    ap (λ o. o ∷ own_occupancies (slice_set occupied section occupancy) others)
    (index_other occupied section first.0 occupancy occupancies.Clear (λ same. absent (0, ap (λ n. Some (as_section n)) same)))
    ∙ ap (λ l. slice_index_or occupied first.0 occupancies.Clear ∷ l) (untouched occupied others section occupancy (λ there. absent (suc there.0, there.1)))

-- one that is, at one place
touched : (occupied : List Occupancy) (own : List SectionId) (section at : ℕ) (occupancy old : Occupancy) → slice_get occupied section ≡ Some old → slice_get own at ≡ Some (as_section section)
    → ((place : ℕ) → slice_get own place ≡ Some (as_section section) → place ≡ at)
    → own_occupancies (slice_set occupied section occupancy) own ≡ slice_set (own_occupancies occupied own) at occupancy
touched occupied [] section at occupancy old is there only = absurd (none-some (as_section section) there)
touched occupied (first ∷ others) section zero occupancy old is there only =
    ap (λ o. o ∷ own_occupancies (slice_set occupied section occupancy) others)
    (ap (λ (s : SectionId). slice_index_or (slice_set occupied section occupancy) s.0 occupancies.Clear) (same_Some first (as_section section) there)
    ∙ get_or_from_slice_get (slice_set occupied section occupancy) section occupancy occupancies.Clear (get_set occupied section old occupancy is))
    ∙ ap (λ l. occupancy ∷ l) (untouched occupied others section occupancy elsewhere)
  where
    elsewhere : IsIn others (as_section section) → ⊥
    elsewhere other = let same = only (suc other.0) other.1 in omega (arith, same)
touched occupied (first ∷ others) section (suc at) occupancy old is there only =
    ap (λ o. o ∷ own_occupancies (slice_set occupied section occupancy) others) (index_other occupied section first.0 occupancy occupancies.Clear elsewhere)
    ∙ ap (λ l. slice_index_or occupied first.0 occupancies.Clear ∷ l) (touched occupied others section at occupancy old is there behind)
  where
    elsewhere : first.0 ≡ section → ⊥
    elsewhere same = let front = only 0 (ap (λ n. Some (as_section n)) same) in omega (arith, front)

    behind : (place : ℕ) → slice_get others place ≡ Some (as_section section) → place ≡ at
    behind place stands = let same = only (suc place) stands in omega (arith, same)

-- ---- what comes to it when a contact tells

module _ (site : Site) (table : Table) (station : IsStation site) (is : IsTableOf site table) (place : ℕ) (entry : DetectorEntry) (there : slice_get site.detectors place ≡ Some entry)
    (section : ℕ) (occupancy : Occupancy) (occupied : List Occupancy) (life : Life (List Occupancy) Input) (long : length occupied ≡ length site.sections)
    (knows : life.contacts ≡ own_occupancies occupied entry.sections) where
  abbrev Told : Option Input → Type 0
  Told heard = (hears occupied_after heard life).contacts ≡ own_occupancies (slice_set occupied section occupancy) entry.sections

  told_own : (at : ℕ) → slice_get entry.sections at ≡ Some (as_section section) → section < length occupied → slice_set life.contacts at occupancy ≡ own_occupancies (slice_set occupied section occupancy) entry.sections
  told_own at stands within = ap (λ l. slice_set l at occupancy) knows
      ∙ sym (touched occupied entry.sections section at occupancy (slice_index_or occupied section occupancies.Clear) (slice_get-get_or occupied section occupancies.Clear within) stands
      (λ other found. (one_detector site.detectors place place other at entry entry (as_section section) station.reported.once there found there stands).1))

  abbrev contact_of : ℕ × ℕ → Input
  contact_of reporter = inputs.Sense (sense.Section reporter.1 occupancy)

  told_where : (reporter : ℕ × ℕ) → slice_get table.reporters section ≡ Some reporter → IsReportedIn site.detectors section reporter → (test : Bool) → (reporter.0 == place) ≡ test
      → Told (if test then Some (contact_of reporter) else None)
  told_where reporter found (detector, at, stands) true same = told_own reporter.1
      (subst (λ (d : DetectorEntry). slice_get d.sections reporter.1 ≡ Some (as_section section)) (same_Some detector entry (sym at ∙ ap (slice_get site.detectors) (same_number reporter.0 place same) ∙ there)) stands)
      (subst (λ n. section < n) (is.reporters.each ∙ sym long) (slice_get_within table.reporters section reporter found))
  told_where reporter found (detector, at, stands) false differ = knows
      ∙ sym (untouched occupied entry.sections section occupancy (λ elsewhere. other_number reporter.0 place differ
      (one_detector site.detectors reporter.0 place reporter.1 elsewhere.0 detector entry (as_section section) station.reported.once at stands there elsewhere.1).0))

  pub contact_told : Told (detector_hears place (to_reporter occupancy (slice_get table.reporters section)))
  contact_told = by_reporter (slice_get table.reporters section) refl where
    by_reporter : (reporter : Option (ℕ × ℕ)) → slice_get table.reporters section ≡ reporter → Told (detector_hears place (to_reporter occupancy reporter))
    by_reporter None none = knows ∙ ap (λ l. own_occupancies l entry.sections) (sym (set_none occupied section occupancy (none_there occupied table.reporters section (long ∙ sym is.reporters.each) none)))
    by_reporter (Some reporter) found = told_where reporter found (is.reporters.their section reporter found) (reporter.0 == place) refl

-- ---- a detector that is made

sensed_own : (site : Site) (occupied : List Occupancy) (own : List SectionId)
    → map (λ section. sections.made (named_section site occupied section)) own ≡ map sections.made (zip (own_names site own) (own_occupancies occupied own))
sensed_own site occupied [] = refl
sensed_own site occupied (first ∷ others) = ap (λ l. sections.made (named_section site occupied first) ∷ l) (sensed_own site occupied others)

-- it reads its own sections alone
pub made_of_its_own : (site : Site) (begins : Beginning) (occupied : List Occupancy) (entry : DetectorEntry)
    → new_detector site begins occupied entry ≡ detector_sensing site begins (own_occupancies occupied entry.sections) entry
made_of_its_own site begins occupied entry = ap (λ l. host_of detection_behaviour site begins entry.name entry.id l) (sensed_own site occupied entry.sections)
