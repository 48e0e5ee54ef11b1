-- A point is let go where it awaits a section, and none after it.
use Rattle.std.proofs.Common.{◌≡◌, ℕ, zero, suc, ◌+◌, ◌&&◌, ◌||◌, not, Bool, true, false, List, [], ◌∷◌, drop, Some, slice_get, refl, ap, sym, ◌∙◌, IsTrue, ◌↔◌, arith}
use Rattle.std.specs.FinSet.{contains}
use Rattle.std.specs.List.{Contains, list_any}
use Rattle.std.proofs.lemmas.Bool.{false≢true, true≢false}
use Rattle.std.proofs.lemmas.Option.{same_Some}
use Rattle.control_table.specs.layout.declared.ids.RouteId.{RouteId}
use Rattle.control_table.specs.layout.declared.ids.SectionId.{SectionId}
use Rattle.control_table.specs.layout.Entries.{Site}
use Rattle.control_table.specs.AwaitedSections.{Awaits}
use Rattle.control_table.specs.bit_row.Places.{Has, Places}
use Rattle.station_layout.specs.Row.{IsLetGoAt, IsRequired, point_at}

-- ---- a row that has one of some sections

has_first : (awaited : Places) (sections : List SectionId) → list_any (λ section. contains awaited section.0) sections ≡ true → (s : SectionId) × Contains sections s × Has awaited s.0
has_first awaited [] some = absurd (false≢true some)
has_first awaited (first ∷ others) some = by_test (contains awaited first.0) refl some (has_first awaited others) where
  by_test : (test : Bool) → contains awaited first.0 ≡ test → (test || list_any (λ section. contains awaited section.0) others) ≡ true
      → (list_any (λ section. contains awaited section.0) others ≡ true → (s : SectionId) × Contains others s × Has awaited s.0) → (s : SectionId) × Contains (first ∷ others) s × Has awaited s.0
  by_test true has is rest = (first, (0, omega arith, refl), has)
  by_test false none is rest =
      let found = rest is
      in let within = found.1.1
      in (found.0, (suc found.1.0, omega (arith, within), found.1.2), found.2)

none_has : (awaited : Places) (sections : List SectionId) → list_any (λ section. contains awaited section.0) sections ≡ false → (s : SectionId) → Contains sections s → Has awaited s.0 → ⊥
none_has awaited [] none s (k, within, is) has = absurd (omega (arith, within))
none_has awaited (first ∷ others) none s (zero, within, is) has = by_test (contains awaited first.0) (ap (λ (one : SectionId). contains awaited one.0) is ∙ has) none where
  by_test : (test : Bool) → test ≡ true → (test || list_any (λ section. contains awaited section.0) others) ≡ false → ⊥
  by_test true has out = true≢false out
  by_test false has out = false≢true has
none_has awaited (first ∷ others) none s (suc k, within, is) has = none_has awaited others (by_test (contains awaited first.0) none) s (k, omega (arith, within), is) has where
  by_test : (test : Bool) → (test || list_any (λ section. contains awaited section.0) others) ≡ false → list_any (λ section. contains awaited section.0) others ≡ false
  by_test true out = absurd (true≢false out)
  by_test false out = out

-- ---- at one place

all_three : (one other third : Bool) → (one && (other && not third)) ≡ true → (one ≡ true) × (other ≡ true) × (third ≡ false)
all_three true true false is = (refl, refl, refl)
all_three true true true is = absurd (false≢true is)
all_three true false third is = absurd (false≢true is)
all_three false other third is = absurd (false≢true is)

of_three : (one other third : Bool) → one ≡ true → other ≡ true → third ≡ false → (one && (other && not third)) ≡ true
of_three true true false is also none = refl
of_three true true true is also none = absurd (true≢false none)
of_three true false third is also none = absurd (false≢true also)
of_three false other third is also none = absurd (false≢true is)

module _ (l : Site) (a : RouteId) (sections : List SectionId) (place k : ℕ) (awaited : Places) (one other third result : Bool) (one_is : IsTrue one ↔ IsRequired l a (point_at k))
    (awaits : (s : SectionId) → Has awaited s.0 ↔ Awaits l a (point_at k) s) (section : SectionId) (section_there : slice_get sections place ≡ Some section) (other_is : other ≡ contains awaited section.0)
    (third_is : third ≡ list_any (λ section. contains awaited section.0) (drop (place + 1) sections)) (result_is : result ≡ (one && (other && not third))) where
  forward : IsTrue result → IsLetGoAt l a sections place (point_at k)
  forward is =
      let three = all_three one other third (sym result_is ∙ is)
      in record {
        required = one_is.0 three.0;
        section = section;
        there = section_there;
        awaits = (awaits section).0 (sym other_is ∙ three.1);
        behind = λ later within awaits_it. none_has awaited (drop (place + 1) sections) (sym third_is ∙ three.2) later within ((awaits later).1 awaits_it);
      }

  none_behind : ((later : SectionId) → Contains (drop (place + 1) sections) later → Awaits l a (point_at k) later → ⊥) → third ≡ false
  none_behind none = by_test third refl where
    by_test : (test : Bool) → third ≡ test → third ≡ false
    by_test false is = is
    by_test true is =
        let found = has_first awaited (drop (place + 1) sections) (sym third_is ∙ is)
        in absurd (none found.0 found.1 ((awaits found.0).0 found.2))

  back : IsLetGoAt l a sections place (point_at k) → IsTrue result
  back goes = result_is ∙ of_three one other third (one_is.1 goes.required)
      (other_is ∙ ap (λ (one : SectionId). contains awaited one.0) (same_Some section goes.section (sym section_there ∙ goes.there)) ∙ (awaits goes.section).1 goes.awaits) (none_behind goes.behind)

  pub let_go_is : IsTrue result ↔ IsLetGoAt l a sections place (point_at k)
  let_go_is = (forward, back)
