-- Looks at sections, one after another, and what they make of a passage.
use Rattle.std.proofs.Common.{inl, inr, ◌≡◌, ◌⊎◌, ◌↔◌, ℕ, zero, suc, Bool, true, false, not, if◌then◌else◌, List, [], ◌∷◌, ◌++◌, append_assoc, append-nil, arith, get_or, refl, ap, sym, ◌∙◌, subst}
use Rattle.std.specs.Prelude.{◌==◌, ◌&&◌, ◌||◌, Option, Some, None, slice_get}
use Rattle.std.specs.Cmp.{nat_cmp_total, unsigned_tied}
use Rattle.std.specs.FinSet.{contains, contains-insert, contains-remove, insert, remove}
use Rattle.std.specs.List.{Contains}
use Rattle.std.proofs.lemmas.Bool.{eq-eqb, eqb-true, false≢true, true≢false}
use Rattle.std.proofs.lemmas.List.Elements.{Contains-append_cases, Contains-append_left, Contains-append_right}
use Rattle.std.proofs.lemmas.List.Quantifiers.{position-Some}
use Rattle.ixl_state.specs.bit_row.Places.{Places}
use Rattle.ixl_state.specs.release.Passage.{PassageState, after_look}
use Rattle.ixl_state.specs.ixl_client.declared.indication.Indication.{Indication}
use Rattle.ixl_state.specs.ixl_spec.Step.{is_told_occupied, told_before, told_now}
use Rattle.ixl_state.specs.ixl_spec.Table.{Row, at}
use Rattle.ixl_state.specs.ixl_spec.View.{place_in}
use Rattle.ixl_laws.specs.History.{kept_of, last_told, reports_of}

-- ---- of a list of looks, those at one section

unfoldable pub looks_at : ℕ → List (ℕ × Bool) → List Bool
looks_at section [] = []
looks_at section (first ∷ others) = if first.0 == section then first.1 ∷ looks_at section others else looks_at section others

pub looks_joined : (section : ℕ) (some more : List (ℕ × Bool)) → looks_at section (some ++ more) ≡ looks_at section some ++ looks_at section more
unfolding looks_at
looks_joined section [] more = refl
looks_joined section (first ∷ others) more = cases (first.0 == section) (looks_joined section others more) where
  cases : (b : Bool) → looks_at section (others ++ more) ≡ looks_at section others ++ looks_at section more →
      (if b then first.1 ∷ looks_at section (others ++ more) else looks_at section (others ++ more)) ≡ (if b then first.1 ∷ looks_at section others else looks_at section others) ++ looks_at section more
  cases true rest = ap (λ list. first.1 ∷ list) rest
  cases false rest = rest

pub before_told : (section : ℕ) (occupied : Places) (place : ℕ) (sections : List ℕ) → looks_at section (told_before occupied place sections) ≡ kept_of section occupied place sections
unfolding looks_at
before_told section occupied place [] = refl
before_told section occupied place (first ∷ others) =
    ap (λ list. if first == section then contains occupied place ∷ list else list) (before_told section occupied (suc place) others)

pub now_told : (section : ℕ) (sections : List ℕ) (heard : List Indication) → looks_at section (told_now sections heard) ≡ reports_of section sections heard
unfolding looks_at at
now_told section sections [] = refl
now_told section sections (first ∷ others) = by_place (slice_get sections first.place) refl (now_told section sections others) where
  by_place : (own : Option ℕ) → slice_get sections first.place ≡ own → looks_at section (told_now sections others) ≡ reports_of section sections others →
      looks_at section (told_now sections (first ∷ others)) ≡ reports_of section sections (first ∷ others)
  by_place None is rest = rw is rest
  by_place (Some own) is rest = rw is (ap (λ list. if own == section then is_told_occupied first.state ∷ list else list) rest)

-- ---- what looks make of a passage

-- one look by a route of this row
abbrev pub look_by : Row → ℕ × Bool → PassageState → PassageState
look_by row look passage = at_place (place_in look.0 row.sections) where
  at_place : Option ℕ → PassageState
  at_place None = passage
  at_place (Some place) = after_look passage place look.1

unfoldable pub look_all : Row → List (ℕ × Bool) → PassageState → PassageState
look_all row [] passage = passage
look_all row (first ∷ others) passage = look_all row others (look_by row first passage)

unfoldable pub seen_after : Bool → List Bool → Bool
seen_after seen [] = seen
seen_after seen (first ∷ others) = seen_after (first || seen) others

-- a section stands at one place of a path
same_section : (row : Row) (section other place : ℕ) → place_in section row.sections ≡ Some place → place_in other row.sections ≡ Some place → other ≡ section
same_section row section other place is also =
    sym (eqb-true (get_or row.sections place 0) other (position-Some (λ one. one == other) row.sections place 0 also).1) ∙ eqb-true (get_or row.sections place 0) section (position-Some (λ one. one == section) row.sections place 0 is).1

module _ (row : Row) (section place : ℕ) (here : place_in section row.sections ≡ Some place) where
  inserted : (set : Places) → contains (insert set place) place ≡ true
  inserted set = contains-insert nat_cmp_total set place place ∙ ap (λ b. b || contains set place) (unsigned_tied place place ∙ eq-eqb place place refl)

  removed : (set : Places) → contains (remove set place) place ≡ false
  removed set = contains-remove nat_cmp_total set place place ∙ ap (λ b. not b && contains set place) (unsigned_tied place place ∙ eq-eqb place place refl)

  apart_test : (other : ℕ) → (other ≡ place → ⊥) → (place == other) ≡ false
  apart_test other apart = by_test (place == other) refl where
    by_test : (b : Bool) → (place == other) ≡ b → (place == other) ≡ false
    by_test true is = absurd (apart (sym (eqb-true place other is)))
    by_test false is = is

  inserted_elsewhere : (set : Places) (other : ℕ) → (other ≡ place → ⊥) → contains (insert set other) place ≡ contains set place
  inserted_elsewhere set other apart = contains-insert nat_cmp_total set other place ∙ ap (λ b. b || contains set place) (unsigned_tied place other ∙ apart_test other apart)

  removed_elsewhere : (set : Places) (other : ℕ) → (other ≡ place → ⊥) → contains (remove set other) place ≡ contains set place
  removed_elsewhere set other apart = contains-remove nat_cmp_total set other place ∙ ap (λ b. not b && contains set place) (unsigned_tied place other ∙ apart_test other apart)

  seen_by : (look : ℕ × Bool) (passage : PassageState) → contains (look_by row look passage).seen place ≡ (if look.0 == section then look.1 || contains passage.seen place else contains passage.seen place)
  seen_by look passage = by_test (look.0 == section) refl where
    looked_here : (occupied : Bool) → contains (after_look passage place occupied).seen place ≡ (occupied || contains passage.seen place)
    looked_here true = inserted passage.seen
    looked_here false = refl

    looked_there : (other : ℕ) (occupied : Bool) → (other ≡ place → ⊥) → contains (after_look passage other occupied).seen place ≡ contains passage.seen place
    looked_there other true apart = inserted_elsewhere passage.seen other apart
    looked_there other false apart = refl

    elsewhere : (at : Option ℕ) → place_in look.0 row.sections ≡ at → (look.0 == section) ≡ false → contains (look_by row look passage).seen place ≡ contains passage.seen place
    elsewhere None is other = rw is refl
    elsewhere (Some at) is other = rw is (looked_there at look.1 (λ same.
        false≢true (sym other ∙ eq-eqb look.0 section (same_section row section look.0 place here (is ∙ ap Some same)))))

    by_test : (b : Bool) → (look.0 == section) ≡ b → contains (look_by row look passage).seen place ≡ (if b then look.1 || contains passage.seen place else contains passage.seen place)
    by_test true is = rw (ap (λ s. place_in s row.sections) (eqb-true look.0 section is) ∙ here) (looked_here look.1)
    by_test false is = elsewhere (place_in look.0 row.sections) refl is

  occupied_by : (look : ℕ × Bool) (passage : PassageState) → contains (look_by row look passage).occupied place ≡ (if look.0 == section then look.1 else contains passage.occupied place)
  occupied_by look passage = by_test (look.0 == section) refl where
    looked_here : (occupied : Bool) → contains (after_look passage place occupied).occupied place ≡ occupied
    looked_here true = inserted passage.occupied
    looked_here false = removed passage.occupied

    looked_there : (other : ℕ) (occupied : Bool) → (other ≡ place → ⊥) → contains (after_look passage other occupied).occupied place ≡ contains passage.occupied place
    looked_there other true apart = inserted_elsewhere passage.occupied other apart
    looked_there other false apart = removed_elsewhere passage.occupied other apart

    elsewhere : (at : Option ℕ) → place_in look.0 row.sections ≡ at → (look.0 == section) ≡ false → contains (look_by row look passage).occupied place ≡ contains passage.occupied place
    elsewhere None is other = rw is refl
    elsewhere (Some at) is other = rw is (looked_there at look.1 (λ same.
        false≢true (sym other ∙ eq-eqb look.0 section (same_section row section look.0 place here (is ∙ ap Some same)))))

    by_test : (b : Bool) → (look.0 == section) ≡ b → contains (look_by row look passage).occupied place ≡ (if b then look.1 else contains passage.occupied place)
    by_test true is = rw (ap (λ s. place_in s row.sections) (eqb-true look.0 section is) ∙ here) (looked_here look.1)
    by_test false is = elsewhere (place_in look.0 row.sections) refl is

  pub seen_is : (looks : List (ℕ × Bool)) (passage : PassageState) → contains (look_all row looks passage).seen place ≡ seen_after (contains passage.seen place) (looks_at section looks)
  unfolding look_all seen_after looks_at
  seen_is [] passage = refl
  seen_is (first ∷ others) passage = seen_is others (look_by row first passage) ∙ ap (λ b. seen_after b (looks_at section others)) (seen_by first passage) ∙ cases (first.0 == section) where
    cases : (b : Bool) → seen_after (if b then first.1 || contains passage.seen place else contains passage.seen place) (looks_at section others)
        ≡ seen_after (contains passage.seen place) (if b then first.1 ∷ looks_at section others else looks_at section others)
    cases true = refl
    cases false = refl

  pub occupied_is : (looks : List (ℕ × Bool)) (passage : PassageState) → contains (look_all row looks passage).occupied place ≡ last_told (contains passage.occupied place) (looks_at section looks)
  unfolding look_all looks_at
  occupied_is [] passage = refl
  occupied_is (first ∷ others) passage = occupied_is others (look_by row first passage) ∙ ap (λ b. last_told b (looks_at section others)) (occupied_by first passage) ∙ cases (first.0 == section) where
    cases : (b : Bool) → last_told (if b then first.1 else contains passage.occupied place) (looks_at section others)
        ≡ last_told (contains passage.occupied place) (if b then first.1 ∷ looks_at section others else looks_at section others)
    cases true = refl
    cases false = refl

-- ---- what was reported

one_contained : (a b : Bool) → Contains (a ∷ []) b → a ≡ b
one_contained a b (zero, within, is) = is
one_contained a b (suc place, within, is) = absurd (omega (arith, within))

pub last_joined : (before : Bool) (some more : List Bool) → last_told before (some ++ more) ≡ last_told (last_told before some) more
last_joined before [] more = refl
last_joined before (first ∷ others) more = last_joined first others more

pub told_last : (was : Bool) (told more : List Bool) → was ≡ last_told false told → last_told was more ≡ last_told false (told ++ more)
told_last was told more is = ap (λ b. last_told b more) is ∙ sym (last_joined false told more)

pub seen_more : (was : Bool) (told more : List Bool) → (was ≡ true ↔ Contains told true) → seen_after was more ≡ true ↔ Contains (told ++ more) true
unfolding seen_after
seen_more was told [] is = subst (λ list. was ≡ true ↔ Contains list true) (sym (append-nil told)) is
seen_more was told (first ∷ others) is =
    subst (λ list. seen_after (first || was) others ≡ true ↔ Contains list true) (append_assoc told (first ∷ []) others) (seen_more (first || was) (told ++ first ∷ []) others (one_more first))
  where
    one_more : (b : Bool) → b || was ≡ true ↔ Contains (told ++ b ∷ []) true
    one_more true = (λ seen. Contains-append_right told (true ∷ []) true (0, omega arith, refl), λ within. refl)
    one_more false = (λ seen. Contains-append_left told (false ∷ []) true (is.0 seen), λ within. back (Contains-append_cases told (false ∷ []) true within)) where
      back : Contains told true ⊎ Contains (false ∷ []) true → was ≡ true
      back (inl before) = is.1 before
      back (inr last) = absurd (false≢true (one_contained false true last))

-- and of how the approach stood
pub approached_more : (was clear : Bool) (stood : List Bool) → (was ≡ true ↔ Contains stood false) → was || not clear ≡ true ↔ Contains (stood ++ clear ∷ []) false
approached_more was clear stood is = by_clear clear where
  back : Contains stood false ⊎ Contains (true ∷ []) false → was ≡ true
  back (inl before) = is.1 before
  back (inr last) = absurd (true≢false (one_contained true false last))

  kept : (b : Bool) → b || false ≡ b
  kept true = refl
  kept false = refl

  full : (b : Bool) → b || true ≡ true
  full true = refl
  full false = refl

  by_clear : (b : Bool) → was || not b ≡ true ↔ Contains (stood ++ b ∷ []) false
  by_clear true = (λ now. Contains-append_left stood (true ∷ []) false (is.0 (sym (kept was) ∙ now)), λ within. kept was ∙ back (Contains-append_cases stood (true ∷ []) false within))
  by_clear false = (λ now. Contains-append_right stood (false ∷ []) false (0, omega arith, refl), λ within. full was)

pub begins_approached : (clear : Bool) → not clear ≡ true ↔ Contains (clear ∷ []) false
begins_approached true = (λ now. absurd (false≢true now), λ within. absurd (true≢false (one_contained true false within)))
begins_approached false = (λ now. (0, omega arith, refl), λ within. refl)
