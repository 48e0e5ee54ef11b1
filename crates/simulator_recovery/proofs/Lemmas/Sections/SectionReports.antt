-- What a detector tells its client of: each of its sections stands once in its list, so each report is of the place that it has there.
use Rattle.simulator_recovery.proofs.Words.Basics.{◌≡◌, ℕ, zero, suc, ◌+◌, ◌≤◌, ◌∙◌, nat_lt, Bool, true, false, not, List, [], ◌∷◌, ◌++◌, length, Option, Some, None, slice_get, refl, sym, ap, subst, if◌then◌else◌, arith, IsTrue, option_map, slice_index_or, find, flat_map, position, position_or_len, bytes_eq, nat_tests, find_at, get_or_from_slice_get, none-some, same_Some, slice_get-get_or, slice_get_within, bytes_eq-Decides}
use Rattle.simulator_recovery.proofs.Words.Controllers.{IsName, HostState, Report, detection_behaviour, owes, status_of, Section}
use Rattle.simulator_recovery.proofs.Words.Interlockings.{as_section, PeerState, is_status, ObjectState}
use Rattle.simulator_recovery.proofs.Words.Stations.{SectionId, DetectorEntry, Site, Distinct, Once, all_names, HasSection, IsDetectorOf, IsStation, IsPeer}
use Rattle.simulator_recovery.proofs.Words.Recovery.{AreMatched, ReportsState, name_of, section_names, HasNames, WrittenIsRead}
use Rattle.simulator_recovery.proofs.Lemmas.Ground.ClientItem.{at_front}
use Rattle.simulator_recovery.proofs.Lemmas.Ground.AtLink.{mapped}
use Rattle.simulator_recovery.proofs.Lemmas.Talk.ExpectedItems.{KindReports}
use Rattle.simulator_recovery.proofs.Lemmas.Ground.IxlClients.{mapped_at}
use Rattle.simulator_recovery.proofs.Lemmas.Ground.EndCalls.{map_length}
use Rattle.simulator_recovery.proofs.Lemmas.Ground.StationKeeps.{all_at}
use Rattle.simulator_recovery.proofs.Lemmas.Talk.Standing.{sections_told}

-- ---- lists of which no two are the same

pub apart_behind : {A : Type 0} (first : A) (others : List A) → Distinct (first ∷ others) → Distinct others
apart_behind first others apart = λ i j d before within. apart (suc i) (suc j) d (omega (arith, before)) (omega (arith, within))

pub first_apart : {A : Type 0} (first : A) (others : List A) (place : ℕ) (other : A) → Distinct (first ∷ others) → slice_get others place ≡ Some other → first ≡ other → ⊥
first_apart first others place other apart is same =
    let within = slice_get_within others place other is
    in apart 0 (suc place) other (omega arith) (omega (arith, within)) (same ∙ sym (get_or_from_slice_get others place other other is))

pub behind_apart : {A : Type 0} (xs ys : List A) → Distinct (xs ++ ys) → Distinct ys
behind_apart [] ys apart = apart
behind_apart (x ∷ xs) ys apart = behind_apart xs ys (apart_behind x (xs ++ ys) apart)

-- what stands in the first of two such lists stands at one place of it
one_place : {A : Type 0} (xs ys : List A) (one : A) (i j : ℕ) → Distinct (xs ++ ys) → slice_get xs i ≡ Some one → slice_get xs j ≡ Some one → i ≡ j
one_place [] ys one i j apart at other = absurd (none-some one at)
one_place (x ∷ xs) ys one zero zero apart at other = refl
one_place (x ∷ xs) ys one zero (suc j) apart at other = absurd (first_apart x (xs ++ ys) j one apart (at_front xs ys j one other) (same_Some x one at))
one_place (x ∷ xs) ys one (suc i) zero apart at other = absurd (first_apart x (xs ++ ys) i one apart (at_front xs ys i one at) (same_Some x one other))
one_place (x ∷ xs) ys one (suc i) (suc j) apart at other = ap suc (one_place xs ys one i j (apart_behind x (xs ++ ys) apart) at other)

-- a section stands at one place of the list of its detector
pub own_once : (detectors : List DetectorEntry) (place i j : ℕ) (entry : DetectorEntry) (section : SectionId) → Distinct (flat_map (λ (d : DetectorEntry). d.sections) detectors) → slice_get detectors place ≡ Some entry
    → slice_get entry.sections i ≡ Some section → slice_get entry.sections j ≡ Some section → i ≡ j
own_once [] place i j entry section apart there at other = absurd (none-some entry there)
own_once (first ∷ others) zero i j entry section apart there at other = one_place first.sections _ section i j apart
    (subst (λ (d : DetectorEntry). slice_get d.sections i ≡ Some section) (sym (same_Some first entry there)) at)
    (subst (λ (d : DetectorEntry). slice_get d.sections j ≡ Some section) (sym (same_Some first entry there)) other)
own_once (first ∷ others) (suc place) i j entry section apart there at other = own_once others place i j entry section (behind_apart first.sections _ apart) there at other

-- names of which no two are the same
abbrev AreApart : List (List ℕ) → Type 0
AreApart names = (i j : ℕ) (name : List ℕ) → slice_get names i ≡ Some name → slice_get names j ≡ Some name → i ≡ j

-- a name stands where it is found first
found_at : (names : List (List ℕ)) (k : ℕ) (name : List ℕ) → AreApart names → slice_get names k ≡ Some name → position_or_len (λ one. bytes_eq one name) names ≡ k
found_at [] k name apart e = absurd (none-some name e)
found_at (first ∷ names) zero name apart e = let same = (bytes_eq-Decides first name).1 (same_Some first name e) in rw same refl
found_at (first ∷ names) (suc k) name apart e = by_test (bytes_eq first name) refl (found_at names k name (λ i j n at other. let both = apart (suc i) (suc j) n at other in omega (arith, both)) e)
  where
    by_test : (b : Bool) → bytes_eq first name ≡ b → position_or_len (λ one. bytes_eq one name) names ≡ k → (if not b then 1 + position_or_len (λ one. bytes_eq one name) names else 0) ≡ suc k
    by_test true f rest = let same = apart zero (suc k) name (ap Some ((bytes_eq-Decides first name).0 f)) e in absurd (omega (arith, same))
    by_test false f rest = omega (arith, rest)

position_is : (names : List (List ℕ)) (k : ℕ) (name : List ℕ) → AreApart names → slice_get names k ≡ Some name → position (λ one. bytes_eq one name) names ≡ Some k
position_is names k name apart e =
    let within = slice_get_within names k name e
    in let less : nat_lt k (length names) ≡ true = grind (arith, nat_tests, within)
    in let found = found_at names k name apart e
    in rw (found, less) refl

-- ---- a detector of a layout

module _ (site : Site) (station : IsStation site) (once : Once site) (place : ℕ) (entry : DetectorEntry) (there : slice_get site.detectors place ≡ Some entry) where
  is_detector : IsDetectorOf site entry
  is_detector = all_at (IsDetectorOf site) site.detectors station.detectors place entry there

  section_there : (i : ℕ) (section : SectionId) → slice_get entry.sections i ≡ Some section → slice_get site.sections section.0 ≡ Some (slice_index_or site.sections section.0 [])
  section_there i section e = slice_get-get_or site.sections section.0 [] (all_at (HasSection site) entry.sections is_detector.sections i section e)

  pub names_apart : AreApart (section_names site entry)
  unfolding all_names
  names_apart i j name at other =
      let one = mapped_at (λ (section : SectionId). slice_index_or site.sections section.0 []) entry.sections i name at
      in let two = mapped_at (λ (section : SectionId). slice_index_or site.sections section.0 []) entry.sections j name other
      in let same = one_place site.sections _ name one.0.0 two.0.0 (apart_behind site.station.name _ once.names) (section_there i one.0 one.1 ∙ ap Some (sym one.2)) (section_there j two.0 two.1 ∙ ap Some (sym two.2))
      in own_once site.detectors place i j entry one.0 station.reported.once there one.1 (two.1 ∙ ap Some (sym (ap as_section same)))

  few_names : length (section_names site entry) ≤ 16
  few_names = let few = is_detector.few in let same = map_length (λ (section : SectionId). slice_index_or site.sections section.0 []) entry.sections in omega (arith, few, same)

  module _ (written : WrittenIsRead) (peer : PeerState) (is_peer : IsPeer peer) (objects : peer.objects ≡ section_names site entry) (named : (k : ℕ) (name : List ℕ) → slice_get (section_names site entry) k ≡ Some name → IsName name)
      (host : HostState (List Section)) (matched : AreMatched detection_behaviour peer host) where
    section_reports : (list : List Section) → HasNames (section_names site entry) list → (k : ℕ) (section : Section) → slice_get list k ≡ Some section → ReportsState peer host (status_of section) k
    section_reports list fits k section e = record {
      name = named k section.name name_there;
      of = ap (position (λ name. bytes_eq name section.name)) objects ∙ position_is (section_names site entry) k section.name names_apart name_there;
      state = ObjectState.Occupancy section.occupancy;
      told = refl;
      protocol = matched.protocol;
      version = refl;
    }
      where
        name_there : slice_get (section_names site entry) k ≡ Some section.name
        name_there = ap (λ (names : List (List ℕ)). slice_get names k) (sym fits) ∙ mapped name_of list k section e

    pub detector_kind : KindReports written detection_behaviour (HasNames (section_names site entry)) peer is_peer host matched
    unfolding section_reports
    detector_kind = record {
      many = λ list fits. sections_told list (few_sections list fits) ∙ long list fits ∙ ap length (sym objects);
      status = λ list fits k report e. told list fits k report (slice_get list k) refl e;
      owed = λ list fits report e. owing list fits report (find owes list) refl e;
    }
      where
        long : (list : List Section) → HasNames (section_names site entry) list → length list ≡ length (section_names site entry)
        long list fits = sym (map_length name_of list) ∙ ap length fits

        few_sections : (list : List Section) → HasNames (section_names site entry) list → length list ≤ 16
        few_sections list fits = let few = few_names in let same = long list fits in omega (arith, few, same)

        told : (list : List Section) → HasNames (section_names site entry) list → (k : ℕ) (report : Report) (found : Option Section) → slice_get list k ≡ found → option_map status_of found ≡ Some report → (is : ReportsState peer host report k) × IsTrue (is_status is.state)
        told list fits k report None e f = absurd (none-some report f)
        told list fits k report (Some section) e f = subst (λ (r : Report). (is : ReportsState peer host r k) × IsTrue (is_status is.state)) (same_Some _ report f) (section_reports list fits k section e, refl)

        owing : (list : List Section) → HasNames (section_names site entry) list → (report : Report) (found : Option Section) → find owes list ≡ found → option_map status_of found ≡ Some report → (k : ℕ) × ReportsState peer host report k
        owing list fits report None e f = absurd (none-some report f)
        owing list fits report (Some section) e f = (
          position_or_len owes list,
          subst (λ (r : Report). ReportsState peer host r (position_or_len owes list)) (same_Some _ report f)
              (section_reports list fits (position_or_len owes list) section (sym (find_at owes list) ∙ e)),
        )
