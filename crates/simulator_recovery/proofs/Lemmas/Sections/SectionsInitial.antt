-- Whoever has taken the whole initialisation of a detector was told of each of its sections.
use Rattle.simulator_recovery.proofs.Words.Basics.{◌≡◌, ℕ, zero, suc, ◌+◌, ◌<◌, ◌≤◌, ◌==◌, ◌∙◌, Bool, true, false, List, [], ◌∷◌, ◌++◌, append-nil, length, map, Option, Some, None, slice_get, if◌then◌else◌, refl, sym, ap, subst, arith, option_map, false≢true, length-append}
use Rattle.simulator_recovery.proofs.Words.Controllers.{reading, Match, InitialisationCompleted, VersionAnswer, said, initial_status, most_objects, report_then, initialisation, Report, Stage, detection_behaviour, status_of, Section}
use Rattle.simulator_recovery.proofs.Words.Interlockings.{told_by, told_by_all, Indication, ObjectState, is_told_occupied}
use Rattle.simulator_recovery.proofs.Words.Recovery.{name_of, told_behind, told_in, HasNames, SaidAll, SaidBy, SaidSome}
use Rattle.simulator_recovery.proofs.Lemmas.Ground.IxlSoFar.{same_place}
use Rattle.simulator_recovery.proofs.Lemmas.Ground.EndCalls.{at_place, map_length}
use Rattle.simulator_recovery.proofs.Lemmas.Sections.SectionsCalls.{DetectorSays, item, told, told_both}
use Rattle.simulator_recovery.proofs.Lemmas.Sections.SectionsClient.{behind_both, in_both, stays_told}
use Rattle.simulator_recovery.proofs.Lemmas.Talk.Standing.{sections_told}

-- of two beginnings of one list the longer goes on with the other, and so does what is after
abbrev tail_of : List (List ℕ) → List (List ℕ)
tail_of [] = []
tail_of (first ∷ others) = others

abbrev head_of : List ℕ → List (List ℕ) → List ℕ
head_of before [] = before
head_of before (first ∷ others) = first

pub cut_so : (one t x y : List (List ℕ)) → one ++ x ≡ t ++ y → length one ≤ length t → (more : List (List ℕ)) × (t ≡ one ++ more) × (x ≡ more ++ y)
cut_so [] t x y e few = (t, refl, e)
cut_so (first ∷ one) [] x y e few = absurd (omega (arith, few))
cut_so (first ∷ one) (head ∷ t) x y e few =
    let rest = cut_so one t x y (ap tail_of e) (omega (arith, few))
    in (rest.0, ap (λ (f : List ℕ). f ∷ t) (sym (ap (head_of first) e)) ∙ ap (λ (l : List (List ℕ)). first ∷ l) rest.1, rest.2)

module _ (d : DetectorSays) where
  none_before : (before : Option Bool) (place : ℕ) (list : List Indication) → list ≡ [] → told_behind place before list ≡ before
  none_before before place list e = ap (told_behind place before) e

  -- the initial status tells of each section, from the place on at which it begins
  status_tells : (more start place : ℕ) (list : List Section) → HasNames d.names list → start ≤ place → place < start + more → place < length list → (before : Option Bool)
      → (occupied : Bool) × (told_behind place before (told d (initial_status detection_behaviour more start list)) ≡ Some occupied)
  unfolding initial_status told_by_all
  status_tells zero start place list named from to inside before = absurd (omega (arith, from, to))
  status_tells (suc more) start place list named from to inside before = choose (at_place list start (omega (arith, from, inside))) (λ far one. status_tells more (start + 1) place list named (omega (arith, far)) (omega (arith, to)) inside one)
    where
      others : List Report
      others = initial_status detection_behaviour more (start + 1) list

      choose : (found : (s : Section) × (slice_get list start ≡ Some s)) → (start < place → (one : Option Bool) → (occupied : Bool) × (told_behind place one (told d (initial_status detection_behaviour more (start + 1) list)) ≡ Some occupied))
          → (occupied : Bool) × (told_behind place before (told d (report_then (option_map status_of (slice_get list start)) (initial_status detection_behaviour more (start + 1) list))) ≡ Some occupied)
      choose (s, e) later = subst (λ (found : Option Section). (occupied : Bool) × (told_behind place before (told d (report_then (option_map status_of found) (initial_status detection_behaviour more (start + 1) list))) ≡ Some occupied)) (sym e) told_now
        where
          first : List Indication
          first = told_by d.peer (reading (item d (status_of s)))

          behind_first : (one : Option Bool) → told_behind place before first ≡ one → told_behind place before (told d (status_of s ∷ others)) ≡ told_behind place one (told d others)
          behind_first one f = behind_both place before first (told d others) ∙ ap (λ (o : Option Bool). told_behind place o (told d others)) f

          first_is : told_behind place before first ≡ (if place == start then Some (is_told_occupied (ObjectState.Occupancy s.occupancy)) else before)
          first_is = ap (told_behind place before) (d.tell.status list named start s e)

          apart : (place == start) ≡ false → start < place
          apart f = by_order (λ same. false≢true (sym f ∙ (ap (λ (n : ℕ). n == start) same ∙ same_place start)))
            where
              by_order : (place ≡ start → ⊥) → start < place
              by_order differ = omega (arith, from, differ)

          told_now : (occupied : Bool) × (told_behind place before (told d (status_of s ∷ others)) ≡ Some occupied)
          told_now = by_place (place == start) refl
            where
              by_place : (b : Bool) → (place == start) ≡ b → (occupied : Bool) × (told_behind place before (told d (status_of s ∷ others)) ≡ Some occupied)
              by_place true f = let stays = stays_told place (told d others) (is_told_occupied (ObjectState.Occupancy s.occupancy)) in
                  (stays.0, behind_first (Some (is_told_occupied (ObjectState.Occupancy s.occupancy))) (first_is ∙ ap (λ (b : Bool). if b then Some (is_told_occupied (ObjectState.Occupancy s.occupancy)) else before) f) ∙ stays.1)
              by_place false f = let rest = later (apart f) before in (rest.0, behind_first before (first_is ∙ ap (λ (b : Bool). if b then Some (is_told_occupied (ObjectState.Occupancy s.occupancy)) else before) f) ∙ rest.1)

  abbrev pub whole_of : List Section → List (List ℕ)
  whole_of object = item d (said detection_behaviour (VersionAnswer Match d.version)) ∷ map (item d) (initialisation detection_behaviour object)

  abbrev pub statuses : List Section → List Report
  statuses object = initial_status detection_behaviour most_objects 0 object

  completed_none : told d (said detection_behaviour InitialisationCompleted ∷ []) ≡ []
  unfolding told_by_all
  completed_none = ap (λ (l : List Indication). l ++ []) d.tell.completed

  pub whole_told : (object : List Section) → told_by_all d.peer (whole_of object) ≡ told d (statuses object)
  unfolding told_by_all
  whole_told object = three (d.tell.answer (said detection_behaviour (VersionAnswer Match d.version)) (Match, refl)) d.tell.start
      (told_both d (statuses object) (said detection_behaviour InitialisationCompleted ∷ []) ∙ (ap (λ (rest : List Indication). told d (statuses object) ++ rest) completed_none ∙ append-nil (told d (statuses object))))
    where
      three : {a b c e : List Indication} → a ≡ [] → b ≡ [] → c ≡ e → a ++ (b ++ c) ≡ e
      three {a} {b} {c} {e} f g h = ap (λ (l : List Indication). l ++ (b ++ c)) f ∙ (ap (λ (l : List Indication). l ++ c) g ∙ h)

  pub length_is : (object : List Section) → HasNames d.names object → length object ≡ length d.names
  length_is object named = sym (map_length name_of object) ∙ ap length named

  initial_tells : (object : List Section) → HasNames d.names object → (place : ℕ) → place < length d.names → (occupied : Bool) × (told_in d.peer place (whole_of object) ≡ Some occupied)
  initial_tells object named place inside =
      let long = length_is object named
      in let few = d.few
      in let status = status_tells most_objects 0 place object named (omega arith) (omega (arith, inside, few)) (omega (arith, inside, long)) None
      in (status.0, ap (told_behind place None) (whole_told object) ∙ status.1)

  longer_tells : (t : List (List ℕ)) (object : List Section) → HasNames d.names object → (more : List (List ℕ)) → t ≡ whole_of object ++ more → (place : ℕ) → place < length d.names → (occupied : Bool) × (told_in d.peer place t ≡ Some occupied)
  longer_tells t object named more are place inside =
      let first = initial_tells object named place inside
      in let stays = stays_told place (told_by_all d.peer more) first.0
      in (stays.0, ap (told_in d.peer place) are ∙ (in_both d.peer place (whole_of object) more ∙ (ap (λ (o : Option Bool). told_behind place o (told_by_all d.peer more)) first.1 ∙ stays.1)))

  -- a detector that has said all
  pub all_tells : (t : List (List ℕ)) → SaidAll detection_behaviour (HasNames d.names) (item d) d.version t → (place : ℕ) → place < length d.names → (occupied : Bool) × (told_in d.peer place t ≡ Some occupied)
  all_tells t all place inside = longer_tells t all.object all.fits (map (item d) all.reports) all.are place inside

  -- one who has taken so many items of what it says
  pub some_tells : (Wrong : Type 0) (t : List (List ℕ)) → SaidSome detection_behaviour (HasNames d.names) Wrong (item d) d.version t → 3 + length d.names ≤ length t
      → (place : ℕ) → place < length d.names → (occupied : Bool) × (told_in d.peer place t ≡ Some occupied)
  some_tells Wrong t some many place inside = by_stage some.by some.said
    where
      long : length some.whole ≡ length t + length some.begins.rest
      long = ap length some.begins.are ∙ length-append t some.begins.rest

      few_said : (n : ℕ) → n ≤ 1 → length some.whole ≡ n → (occupied : Bool) × (told_in d.peer place t ≡ Some occupied)
      few_said n few is = let l = long in absurd (omega (arith, few, is, l, many))

      by_stage : (s : Stage) → SaidBy detection_behaviour (HasNames d.names) Wrong (item d) d.version s some.whole → (occupied : Bool) × (told_in d.peer place t ≡ Some occupied)
      by_stage Stage.Outside said_so = few_said 0 (omega arith) (ap length said_so)
      by_stage Stage.AwaitsCheck said_so = few_said 0 (omega arith) (ap length said_so)
      by_stage Stage.AwaitsRequest said_so = few_said 1 (omega arith) (ap length said_so)
      by_stage Stage.Refused said_so = few_said 1 (omega arith) (ap length said_so.1)
      by_stage Stage.Completed all = longer_tells t all.object all.fits rest.0 rest.1 place inside
        where
          n_is : length (whole_of all.object) ≤ 3 + length d.names
          n_is =
              let items = map_length (item d) (initialisation detection_behaviour all.object)
              in let parts = length-append (statuses all.object) (said detection_behaviour InitialisationCompleted ∷ [])
              in let named = length_is all.object all.fits
              in let few = d.few
              in let each = sections_told all.object (omega (arith, named, few))
              in omega (arith, items, parts, named, each)

          rest : (more : List (List ℕ)) × (t ≡ whole_of all.object ++ more) × (map (item d) all.reports ≡ more ++ some.begins.rest)
          rest = let n = n_is in cut_so (whole_of all.object) t (map (item d) all.reports) some.begins.rest (sym all.are ∙ some.begins.are) (omega (arith, n, many))
