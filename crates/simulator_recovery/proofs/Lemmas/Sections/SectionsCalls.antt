-- What a detector's calls do to its sections, and what the reports that it pays tell of them.
use Rattle.simulator_recovery.proofs.Words.Basics.{◌≡◌, ◌≢◌, ◌⊎◌, inl, inr, ℕ, zero, suc, ◌+◌, ◌≤◌, length, ◌==◌, ◌∙◌, Bool, true, false, List, [], ◌∷◌, ◌++◌, map, Option, Some, None, slice_get, if◌then◌else◌, refl, sym, ap, subst, arith, option_map, All, find, false≢true, nat_tests, same_Some}
use Rattle.simulator_recovery.proofs.Words.Links.{Each}
use Rattle.simulator_recovery.proofs.Words.Controllers.{reading, Occupancy, InitialisationCompleted, StartInitialisation, said, Keeps, Loses, ObjectCall, Pays, Senses, Takes, Ticks, contacts_in, object_after_all, one_of, reports_paid, initial_status, most_objects, report_then, AreComing, ArePayments, AreSomeOf, IsVersionAnswer, initialisation, Report, Sense, detection_behaviour, changed, is_same, owes, owing, settled, status_of, with_section, Section, Clear, Occupied}
use Rattle.simulator_recovery.proofs.Words.Interlockings.{PeerState, told_by, told_by_all, Indication, ObjectState, is_told_occupied}
use Rattle.simulator_recovery.proofs.Words.Recovery.{is_occupied, told_behind, HasNames, item_for}
use Rattle.simulator_spec.specs.tds_ctl.Sections.{paying, sensing}
use Rattle.simulator_recovery.proofs.Lemmas.Ground.HostKeeps.{ObjectKeeps}
use Rattle.simulator_recovery.proofs.Lemmas.Ground.IxlSoFar.{same_place}
use Rattle.simulator_recovery.proofs.Lemmas.Ground.EndCalls.{map_both}
use Rattle.simulator_recovery.proofs.Lemmas.Sections.SectionsClient.{TellsOnly, all_both, behind_both, only_both, only_none, only_other, only_this}
use Rattle.simulator_recovery.proofs.Lemmas.Ground.DueTests.{same_number}

-- ---- what contacts do

-- a section that owes nothing after a contact was so before it
sensed_back : (at : ℕ) (occupancy : Occupancy) (list : List Section) (place : ℕ) (s : Section) → slice_get (with_section at (changed occupancy) list) place ≡ Some s → s.owes ≡ false → slice_get list place ≡ Some s
sensed_back at occupancy [] place s e none = e
sensed_back zero occupancy (first ∷ others) zero s e none = choose (is_same occupancy first.occupancy) e
  where
    choose : (b : Bool) → Some (if b then first else record first { occupancy = occupancy; owes = true }) ≡ Some s → Some first ≡ Some s
    choose true f = f
    choose false f = absurd (false≢true (sym none ∙ ap (λ (x : Section). x.owes) (sym (same_Some _ s f))))
sensed_back zero occupancy (first ∷ others) (suc place) s e none = e
sensed_back (suc at) occupancy (first ∷ others) zero s e none = e
sensed_back (suc at) occupancy (first ∷ others) (suc place) s e none = sensed_back at occupancy others place s e none

-- after what comes
pub come_back : (now : ℕ) (calls : List ObjectCall) → AreComing now calls → (list : List Section) (place : ℕ) (s : Section) → slice_get (object_after_all detection_behaviour calls list) place ≡ Some s → s.owes ≡ false
    → slice_get list place ≡ Some s
unfolding object_after_all
come_back now [] coming list place s e none = e
come_back now (Takes at telegram ∷ others) coming list place s e none = come_back now others coming.1 list place s e none
come_back now (Senses at (Sense.Section k occupancy) ∷ others) coming list place s e none =
    sensed_back k occupancy list place s (come_back now others coming.1 (with_section k (changed occupancy) list) place s e none) none
come_back now (Senses at (Sense.Position position) ∷ others) coming list place s e none = come_back now others coming.1 list place s e none
come_back now (Ticks at ∷ others) coming list place s e none = absurd coming
come_back now (Keeps at ∷ others) coming list place s e none = absurd coming
come_back now (Pays ∷ others) coming list place s e none = absurd coming
come_back now (Loses ∷ others) coming list place s e none = absurd coming

-- a contact of another section
abbrev pub IsElsewhere : ℕ → Sense → Type 0
IsElsewhere place (Sense.Section at occupancy) = (place == at) ≡ false
IsElsewhere place (Sense.Position position) = Unit {0}

sensed_elsewhere : (at : ℕ) (occupancy : Occupancy) (list : List Section) (place : ℕ) → (place == at) ≡ false → slice_get (with_section at (changed occupancy) list) place ≡ slice_get list place
sensed_elsewhere at occupancy [] place differ = refl
sensed_elsewhere zero occupancy (first ∷ others) zero differ = absurd (false≢true (sym differ))
sensed_elsewhere zero occupancy (first ∷ others) (suc place) differ = refl
sensed_elsewhere (suc at) occupancy (first ∷ others) zero differ = refl
sensed_elsewhere (suc at) occupancy (first ∷ others) (suc place) differ = sensed_elsewhere at occupancy others place (one_less place at differ)
  where
    one_less : (a b : ℕ) → (suc a == suc b) ≡ false → (a == b) ≡ false
    one_less a b e = grind (arith, nat_tests, e)

pub come_elsewhere : (now : ℕ) (calls : List ObjectCall) → AreComing now calls → (place : ℕ) → Each (IsElsewhere place) (contacts_in calls) → (list : List Section)
    → slice_get (object_after_all detection_behaviour calls list) place ≡ slice_get list place
unfolding object_after_all contacts_in
come_elsewhere now [] coming place each list = refl
come_elsewhere now (Takes at telegram ∷ others) coming place each list = come_elsewhere now others coming.1 place each list
come_elsewhere now (Senses at (Sense.Section k occupancy) ∷ others) coming place each list =
    come_elsewhere now others coming.1 place each.1 (with_section k (changed occupancy) list) ∙ sensed_elsewhere k occupancy list place each.0
come_elsewhere now (Senses at (Sense.Position position) ∷ others) coming place each list = come_elsewhere now others coming.1 place each.1 list
come_elsewhere now (Ticks at ∷ others) coming place each list = absurd coming
come_elsewhere now (Keeps at ∷ others) coming place each list = absurd coming
come_elsewhere now (Pays ∷ others) coming place each list = absurd coming
come_elsewhere now (Loses ∷ others) coming place each list = absurd coming

-- ---- what is paid

-- the report that is owed first, and the sections after its payment
pub record IsFirstOwed (list : List Section) (k : ℕ) (s : Section) : Type 0 where
  pub found : find owes list ≡ Some s
  pub there : slice_get list k ≡ Some s
  pub owes_it : s.owes ≡ true
  pub behind : (place : ℕ) (x : Section) → slice_get (paying list) place ≡ Some x → ((place ≡ k) × (x ≡ settled s)) ⊎ ((place ≢ k) × (slice_get list place ≡ Some x))
  pub others : (place : ℕ) → place ≢ k → slice_get (paying list) place ≡ slice_get list place

pub data Owed (list : List Section) : Type 0 where
  none_owed : find owes list ≡ None → paying list ≡ list → Owed list
  one_owed : (k : ℕ) (s : Section) → IsFirstOwed list k s → Owed list

pub owed_first : (list : List Section) → Owed list
owed_first [] = none_owed refl refl
owed_first (one ∷ rest) = choose one.owes refl (owed_first rest)
  where
    choose : (b : Bool) → one.owes ≡ b → Owed rest → Owed (one ∷ rest)
    choose true e later = one_owed zero one (record { found = rw e refl; there = refl; owes_it = e; behind = behind; others = others })
      where
        paid : paying (one ∷ rest) ≡ settled one ∷ rest
        paid = ap (λ b. if b then settled one ∷ rest else one ∷ paying rest) e

        at : (place : ℕ) (x : Section) → slice_get (settled one ∷ rest) place ≡ Some x → ((place ≡ zero) × (x ≡ settled one)) ⊎ ((place ≢ zero) × (slice_get (one ∷ rest) place ≡ Some x))
        at zero x f = inl (refl, sym (same_Some (settled one) x f))
        at (suc place) x f = inr (λ same. absurd (cc same), f)

        behind : (place : ℕ) (x : Section) → slice_get (paying (one ∷ rest)) place ≡ Some x → ((place ≡ zero) × (x ≡ settled one)) ⊎ ((place ≢ zero) × (slice_get (one ∷ rest) place ≡ Some x))
        behind place x f = at place x (ap (λ (l : List Section). slice_get l place) (sym paid) ∙ f)

        apart : (place : ℕ) → place ≢ zero → slice_get (settled one ∷ rest) place ≡ slice_get (one ∷ rest) place
        apart zero differ = absurd (differ refl)
        apart (suc place) differ = refl

        others : (place : ℕ) → place ≢ zero → slice_get (paying (one ∷ rest)) place ≡ slice_get (one ∷ rest) place
        others place differ = ap (λ (l : List Section). slice_get l place) paid ∙ apart place differ
    choose false e (none_owed none same) = none_owed (rw e none) (ap (λ b. if b then settled one ∷ rest else one ∷ paying rest) e ∙ ap (λ (l : List Section). one ∷ l) same)
    choose false e (one_owed k s is) = one_owed (suc k) s (record { found = rw e is.found; there = is.there; owes_it = is.owes_it; behind = behind; others = others })
      where
        paid : paying (one ∷ rest) ≡ one ∷ paying rest
        paid = ap (λ b. if b then settled one ∷ rest else one ∷ paying rest) e

        further : (place : ℕ) (x : Section) → ((place ≡ k) × (x ≡ settled s)) ⊎ ((place ≢ k) × (slice_get rest place ≡ Some x)) → ((suc place ≡ suc k) × (x ≡ settled s)) ⊎ ((suc place ≢ suc k) × (slice_get rest place ≡ Some x))
        further place x (inl (f, g)) = inl (ap suc f, g)
        further place x (inr (differ, g)) = inr (λ same. differ (omega (arith, same)), g)

        at : (place : ℕ) (x : Section) → slice_get (one ∷ paying rest) place ≡ Some x → ((place ≡ suc k) × (x ≡ settled s)) ⊎ ((place ≢ suc k) × (slice_get (one ∷ rest) place ≡ Some x))
        at zero x f = inr (λ same. absurd (cc same), f)
        at (suc place) x f = further place x (is.behind place x f)

        behind : (place : ℕ) (x : Section) → slice_get (paying (one ∷ rest)) place ≡ Some x → ((place ≡ suc k) × (x ≡ settled s)) ⊎ ((place ≢ suc k) × (slice_get (one ∷ rest) place ≡ Some x))
        behind place x f = at place x (ap (λ (l : List Section). slice_get l place) (sym paid) ∙ f)

        apart : (place : ℕ) → place ≢ suc k → slice_get (one ∷ paying rest) place ≡ slice_get (one ∷ rest) place
        apart zero differ = refl
        apart (suc place) differ = is.others place (λ same. differ (ap suc same))

        others : (place : ℕ) → place ≢ suc k → slice_get (paying (one ∷ rest)) place ≡ slice_get (one ∷ rest) place
        others place differ = ap (λ (l : List Section). slice_get l place) paid ∙ apart place differ

-- ---- what is told

-- what was told is right, or nothing was told
abbrev pub Fits : Occupancy → Option Bool → Type 0
Fits occupancy told = (told ≡ None) ⊎ (told ≡ Some (is_occupied occupancy))

-- A client's peer, and the items of a detector whose sections have these names: each status tells of its section, by its place, and what
-- belongs to the initialisation tells of none.
pub record ItemsTell (peer : PeerState) (item : Report → List ℕ) (names : List (List ℕ)) (version : ℕ) : Type 0 where
  pub status : (list : List Section) → HasNames names list → (k : ℕ) (s : Section) → slice_get list k ≡ Some s
      → told_by peer (reading (item (status_of s))) ≡ record { place = k; state = ObjectState.Occupancy s.occupancy } ∷ []
  pub answer : (report : Report) → IsVersionAnswer detection_behaviour version report → told_by peer (reading (item report)) ≡ []
  pub start : told_by peer (reading (item (said detection_behaviour StartInitialisation))) ≡ []
  pub completed : told_by peer (reading (item (said detection_behaviour InitialisationCompleted))) ≡ []

occupied_is : (occupancy : Occupancy) → is_told_occupied (ObjectState.Occupancy occupancy) ≡ is_occupied occupancy
occupied_is Clear = refl
occupied_is Occupied = refl

-- A detector by what it says to its client: under these names, in this version.
pub record DetectorSays : Type 0 where
  pub peer : PeerState
  pub own_name : List ℕ
  pub peer_name : List ℕ
  pub names : List (List ℕ)
  pub version : ℕ
  pub few : length names ≤ 16
  pub tell : ItemsTell peer (item_for own_name peer_name) names version
  pub keep : ObjectKeeps detection_behaviour (HasNames names) version

module _ (d : DetectorSays) where
  abbrev peer : PeerState
  peer = d.peer

  abbrev pub item : Report → List ℕ
  item = item_for d.own_name d.peer_name

  abbrev names : List (List ℕ)
  names = d.names

  abbrev version : ℕ
  version = d.version

  -- what reports tell, as items
  abbrev pub told : List Report → List Indication
  told reports = told_by_all peer (map item reports)

  pub told_both : (one other : List Report) → told (one ++ other) ≡ told one ++ told other
  told_both one other = ap (told_by_all peer) (map_both item one other) ∙ all_both peer (map item one) (map item other)

  -- a report of which the item tells this
  abbrev pub Tells : Report → List Indication → Type 0
  Tells report list = told_by peer (reading (item report)) ≡ list

  only_first : (place : ℕ) (occupied : Bool) (report : Report) (others : List Report) → TellsOnly place occupied (told_by peer (reading (item report))) → TellsOnly place occupied (told others) → TellsOnly place occupied (told (report ∷ others))
  unfolding told_by_all
  only_first place occupied report others one rest = only_both place occupied (told_by peer (reading (item report))) (told others) one rest

  -- a section's status tells of it what it is
  status_only : (list : List Section) → HasNames names list → (k place : ℕ) (s x : Section) → slice_get list k ≡ Some s → slice_get list place ≡ Some x → TellsOnly place (is_occupied x.occupancy) (told_by peer (reading (item (status_of s))))
  status_only list named k place s x at there = subst (TellsOnly place (is_occupied x.occupancy)) (sym (d.tell.status list named k s at)) (choose (place == k) refl)
    where
      choose : (b : Bool) → (place == k) ≡ b → TellsOnly place (is_occupied x.occupancy) (record { place = k; state = ObjectState.Occupancy s.occupancy } ∷ [])
      choose false e = only_other place k (ObjectState.Occupancy s.occupancy) (is_occupied x.occupancy) e
      choose true e = subst (λ (b : Bool). TellsOnly place b (record { place = k; state = ObjectState.Occupancy s.occupancy } ∷ []))
          (occupied_is s.occupancy ∙ ap (λ (y : Section). is_occupied y.occupancy) (same_Some s x (sym at ∙ (ap (slice_get list) (sym (same_number place k e)) ∙ there))))
          (only_this place k (ObjectState.Occupancy s.occupancy))

  -- ---- the initialisation

  -- each of these reports tells of a section only this
  abbrev pub EachOnly : ℕ → Bool → List Report → Type 0
  EachOnly place occupied reports = Each (λ report. TellsOnly place occupied (told_by peer (reading (item report)))) reports

  pub each_only : (place : ℕ) (occupied : Bool) (reports : List Report) → EachOnly place occupied reports → TellsOnly place occupied (told reports)
  unfolding told_by_all
  each_only place occupied [] each = only_none place occupied
  each_only place occupied (first ∷ others) each = only_both place occupied (told_by peer (reading (item first))) (told others) each.0 (each_only place occupied others each.1)

  none_only : (place : ℕ) (occupied : Bool) (report : Report) → Tells report [] → TellsOnly place occupied (told_by peer (reading (item report)))
  none_only place occupied report none = subst (TellsOnly place occupied) (sym none) (only_none place occupied)

  status_each : (more start place : ℕ) (list : List Section) (x : Section) → HasNames names list → slice_get list place ≡ Some x → EachOnly place (is_occupied x.occupancy) (initial_status detection_behaviour more start list)
  unfolding initial_status
  status_each zero start place list x named there = tt
  status_each (suc more) start place list x named there = choose (slice_get list start) refl (status_each more (start + 1) place list x named there)
    where
      choose : (found : Option Section) → slice_get list start ≡ found → EachOnly place (is_occupied x.occupancy) (initial_status detection_behaviour more (start + 1) list) → EachOnly place (is_occupied x.occupancy) (report_then (option_map status_of found) (initial_status detection_behaviour more (start + 1) list))
      choose None e later = tt
      choose (Some s) e later = (status_only list named start place s x e there, later)

  initial_each : (place : ℕ) (list : List Section) (x : Section) → HasNames names list → slice_get list place ≡ Some x → EachOnly place (is_occupied x.occupancy) (initialisation detection_behaviour list)
  initial_each place list x named there = (
    none_only place (is_occupied x.occupancy) (said detection_behaviour StartInitialisation) d.tell.start,
    each_both_only (initial_status detection_behaviour most_objects 0 list) (status_each most_objects 0 place list x named there),
  )
    where
      each_both_only : (reports : List Report) → EachOnly place (is_occupied x.occupancy) reports → EachOnly place (is_occupied x.occupancy) (reports ++ said detection_behaviour InitialisationCompleted ∷ [])
      each_both_only [] each = (none_only place (is_occupied x.occupancy) (said detection_behaviour InitialisationCompleted) d.tell.completed, tt)
      each_both_only (first ∷ others) each = (each.0, each_both_only others each.1)

  -- so does some of it
  some_each : (P : Report → Type 0) (some all : List Report) → AreSomeOf some all → Each P all → Each P some
  some_each P [] all are each = tt
  some_each P (one ∷ more) [] are each = absurd are
  some_each P (one ∷ more) (first ∷ others) (inl (same, rest)) each = (subst P (sym same) each.0, some_each P more others rest each.1)
  some_each P (one ∷ more) (first ∷ others) (inr rest) each = some_each P (one ∷ more) others rest each.1

  answers_each : (P : Report → Type 0) (answers : List Report) → All (IsVersionAnswer detection_behaviour version) answers → ((report : Report) → IsVersionAnswer detection_behaviour version report → P report) → Each P answers
  answers_each P [] all gives = tt
  answers_each P (first ∷ others) all gives = (gives first (all 0 first (omega arith)), answers_each P others (λ k d within. all (suc k) d (omega (arith, within))) gives)

  -- what a host says itself, of an object that is so
  pub own_only : (place : ℕ) (list : List Section) (x : Section) (answers begins : List Report) → HasNames names list → slice_get list place ≡ Some x → All (IsVersionAnswer detection_behaviour version) answers → AreSomeOf begins (initialisation detection_behaviour list)
      → EachOnly place (is_occupied x.occupancy) (answers ++ begins)
  own_only place list x answers begins named there are some = both answers (answers_each _ answers are (λ report is. none_only place (is_occupied x.occupancy) report (d.tell.answer report is))) (some_each _ begins (initialisation detection_behaviour list) some (initial_each place list x named there))
    where
      both : (one : List Report) → EachOnly place (is_occupied x.occupancy) one → EachOnly place (is_occupied x.occupancy) begins → EachOnly place (is_occupied x.occupancy) (one ++ begins)
      both [] first second = second
      both (one ∷ more) first second = (first.0, both more first.1 second)

  -- the answers alone tell nothing
  pub answers_none : (answers : List Report) → All (IsVersionAnswer detection_behaviour version) answers → told answers ≡ []
  unfolding told_by_all
  answers_none [] all = refl
  answers_none (first ∷ others) all = two (d.tell.answer first (all 0 first (omega arith))) (answers_none others (λ k d within. all (suc k) d (omega (arith, within))))
    where
      two : {a b : List Indication} → a ≡ [] → b ≡ [] → a ++ b ≡ []
      two e f = cc (e, f)

  -- ---- reports that are paid

  names_kept : (list : List Section) → HasNames names list → HasNames names (paying list)
  names_kept list named = d.keep.pays list named

  -- after payments, where what was told before is right of each section that owes nothing
  abbrev PaidFits : List ObjectCall → Type 0
  PaidFits pays = (list : List Section) → HasNames names list → (before : ℕ → Option Bool)
      → ((place : ℕ) (x : Section) → slice_get list place ≡ Some x → x.owes ≡ false → Fits x.occupancy (before place))
      → (place : ℕ) (x : Section) → slice_get (object_after_all detection_behaviour pays list) place ≡ Some x → x.owes ≡ false → Fits x.occupancy (told_behind place (before place) (told (reports_paid detection_behaviour pays list)))

  pub paid_fits : (pays : List ObjectCall) → ArePayments pays → PaidFits pays
  unfolding object_after_all reports_paid told_by_all
  paid_fits [] are list named before fits = fits
  paid_fits (Pays ∷ others) are list named before fits = choose (paid_fits others are) (owed_first list)
    where
      After : List Report → Type 0
      After first = (place : ℕ) (x : Section) → slice_get (object_after_all detection_behaviour others (paying list)) place ≡ Some x → x.owes ≡ false
          → Fits x.occupancy (told_behind place (before place) (told (first ++ reports_paid detection_behaviour others (paying list))))

      choose : PaidFits others → Owed list → After (one_of (owing list))
      choose later (none_owed none same) = subst (λ (found : Option Section). After (one_of (option_map status_of found))) (sym none)
          (λ place x e free. later (paying list) (names_kept list named) before (λ p y f g. fits p y (ap (λ (l : List Section). slice_get l p) (sym same) ∙ f) g) place x e free)
      choose later (one_owed k s is) = subst (λ (found : Option Section). After (one_of (option_map status_of found))) (sym is.found) after
        where
          now_told : ℕ → Option Bool
          now_told p = told_behind p (before p) (told_by peer (reading (item (status_of s))))

          told_so : told_by peer (reading (item (status_of s))) ≡ record { place = k; state = ObjectState.Occupancy s.occupancy } ∷ []
          told_so = d.tell.status list named k s is.there

          now_is : (p : ℕ) → now_told p ≡ (if p == k then Some (is_told_occupied (ObjectState.Occupancy s.occupancy)) else before p)
          now_is p = ap (told_behind p (before p)) told_so

          itself : (b : Bool) → b ≡ true → (p : ℕ) → (if b then Some (is_told_occupied (ObjectState.Occupancy s.occupancy)) else before p) ≡ Some (is_occupied s.occupancy)
          itself true e p = ap Some (occupied_is s.occupancy)
          itself false e p = absurd (false≢true e)

          another : (b : Bool) → b ≡ false → (p : ℕ) → (if b then Some (is_told_occupied (ObjectState.Occupancy s.occupancy)) else before p) ≡ before p
          another false e p = refl
          another true e p = absurd (false≢true (sym e))

          differs : (p : ℕ) → p ≢ k → (p == k) ≡ false
          differs p apart = by_test (p == k) refl
            where
              by_test : (b : Bool) → (p == k) ≡ b → (p == k) ≡ false
              by_test false f = f
              by_test true f = absurd (apart (grind (arith, nat_tests, f)))

          now_fits : (p : ℕ) (y : Section) → slice_get (paying list) p ≡ Some y → y.owes ≡ false → Fits y.occupancy (now_told p)
          now_fits p y f free = by_place (is.behind p y f)
            where
              by_place : ((p ≡ k) × (y ≡ settled s)) ⊎ ((p ≢ k) × (slice_get list p ≡ Some y)) → Fits y.occupancy (now_told p)
              by_place (inl (same, is_settled)) = inr (now_is p ∙ (itself (p == k) (ap (λ (n : ℕ). n == k) same ∙ same_place k) p ∙ ap (λ (z : Section). Some (is_occupied z.occupancy)) (sym is_settled)))
              by_place (inr (apart, there)) = subst (Fits y.occupancy) (sym (now_is p ∙ another (p == k) (differs p apart) p)) (fits p y there free)

          after : After (status_of s ∷ [])
          after place x e free = subst (Fits x.occupancy) (sym (behind_both place (before place) (told_by peer (reading (item (status_of s)))) (told (reports_paid detection_behaviour others (paying list)))))
              (later (paying list) (names_kept list named) now_told now_fits place x e free)
  paid_fits (Takes at telegram ∷ others) are list named before fits = absurd are
  paid_fits (Ticks at ∷ others) are list named before fits = absurd are
  paid_fits (Senses at contact ∷ others) are list named before fits = absurd are
  paid_fits (Keeps at ∷ others) are list named before fits = absurd are
  paid_fits (Loses ∷ others) are list named before fits = absurd are

  -- a section that owes nothing isn't told, and stays so
  abbrev PaidOnly : List ObjectCall → Type 0
  PaidOnly pays = (list : List Section) → HasNames names list → (place : ℕ) (x : Section) → slice_get list place ≡ Some x → x.owes ≡ false
      → EachOnly place (is_occupied x.occupancy) (reports_paid detection_behaviour pays list) × (slice_get (object_after_all detection_behaviour pays list) place ≡ Some x)

  pub paid_only : (pays : List ObjectCall) → ArePayments pays → PaidOnly pays
  unfolding object_after_all reports_paid
  paid_only [] are list named place x there free = (tt, there)
  paid_only (Pays ∷ others) are list named place x there free = choose (paid_only others are) (owed_first list)
    where
      Out : List Report → Type 0
      Out first = EachOnly place (is_occupied x.occupancy) (first ++ reports_paid detection_behaviour others (paying list)) × (slice_get (object_after_all detection_behaviour others (paying list)) place ≡ Some x)

      choose : PaidOnly others → Owed list → Out (one_of (owing list))
      choose later (none_owed none same) = subst (λ (found : Option Section). Out (one_of (option_map status_of found))) (sym none)
          (later (paying list) (names_kept list named) place x (ap (λ (l : List Section). slice_get l place) same ∙ there) free)
      choose later (one_owed k s is) = subst (λ (found : Option Section). Out (one_of (option_map status_of found))) (sym is.found)
          (let rest = later (paying list) (names_kept list named) place x (is.others place apart ∙ there) free in ((status_only list named k place s x is.there there, rest.0), rest.1))
        where
          apart : place ≢ k
          apart same = false≢true (sym free ∙ (ap (λ (y : Section). y.owes) (same_Some x s (sym there ∙ (ap (slice_get list) same ∙ is.there))) ∙ is.owes_it))
  paid_only (Takes at telegram ∷ others) are list named place x there free = absurd are
  paid_only (Ticks at ∷ others) are list named place x there free = absurd are
  paid_only (Senses at contact ∷ others) are list named place x there free = absurd are
  paid_only (Keeps at ∷ others) are list named place x there free = absurd are
  paid_only (Loses ∷ others) are list named place x there free = absurd are

  -- what comes keeps the names
  pub names_come : (now : ℕ) (calls : List ObjectCall) → AreComing now calls → (list : List Section) → HasNames names list → HasNames names (object_after_all detection_behaviour calls list)
  unfolding object_after_all
  names_come now [] coming list named = named
  names_come now (Takes at telegram ∷ others) coming list named = names_come now others coming.1 list named
  names_come now (Senses at contact ∷ others) coming list named = names_come now others coming.1 (sensing contact list) (d.keep.senses at contact list named)
  names_come now (Ticks at ∷ others) coming list named = absurd coming
  names_come now (Keeps at ∷ others) coming list named = absurd coming
  names_come now (Pays ∷ others) coming list named = absurd coming
  names_come now (Loses ∷ others) coming list named = absurd coming
