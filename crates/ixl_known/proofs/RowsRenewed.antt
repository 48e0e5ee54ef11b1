-- What one detector tells is entered into the rows.
use Rattle.std.proofs.Common.{inl, inr, ◌≡◌, ◌⊎◌, ℕ, zero, suc, ◌+◌, ◌<◌, ◌≤◌, Bool, true, false, not, if◌then◌else◌, List, [], ◌∷◌, length, get_or, slice_set, arith, refl, ap, sym, ◌∙◌, subst}
use Rattle.std.specs.Prelude.{◌&&◌, ◌||◌, ◌==◌, nat_lt, Option, Some, None, slice_get}
use Rattle.std.specs.Cmp.{nat_cmp_total, unsigned_tied}
use Rattle.std.specs.FinSet.{contains, insert, remove, contains-remove}
use Rattle.std.proofs.lemmas.Bool.{ltb-true, ltb-false, eqb-true, eqb-false}
use Rattle.std.proofs.lemmas.List.{length-set}
use Rattle.std.proofs.lemmas.Option.{same_Some, slice_get_past, slice_get_read}
use Rattle.ixl_spec.specs.bit_row.Places.{Places}
use Rattle.ixl_spec.specs.ixl_client.Client.{is_ready}
use Rattle.ixl_spec.specs.State.{KnownDetectorState}
use Rattle.ixl_spec.specs.Table.{at, passes}
use Rattle.ixl_known.specs.Field.{FieldState}
use Rattle.ixl_known.specs.declared.rows.PointRows.{PointRows}
use Rattle.ixl_known.specs.declared.rows.SectionRows.{SectionRows}
use Rattle.ixl_known.specs.inside.Rows.{AreRowsSoFar, AreSectionRows, IsField, IsReportedElsewhere, IsRightSoFar}
use Rattle.ixl_known.proofs.RowLaws.{put, there_tests}

-- ---- a row with or without a place

pub with_it : (row : Places) (place other : ℕ) → contains (insert row place) other ≡ (if other == place then true else contains row other)
with_it row place other = put row place other ∙ cases (other == place) where
  cases : (b : Bool) → (b || contains row other) ≡ (if b then true else contains row other)
  cases true = refl
  cases false = refl

pub without_it : (row : Places) (place other : ℕ) → contains (remove row place) other ≡ (if other == place then false else contains row other)
without_it row place other = contains-remove nat_cmp_total row place other ∙ ap (λ b. not b && contains row other) (unsigned_tied other place) ∙ cases (other == place) where
  cases : (b : Bool) → (not b && contains row other) ≡ (if b then false else contains row other)
  cases true = refl
  cases false = refl

-- ---- one section after another

none_there : {A : Type 0} {one : A} → None ≡ Some one → ⊥
none_there is = cc

module _ (place : ℕ) (reporters : List (ℕ × ℕ)) (test : ℕ → Bool) (done : ℕ) (row : Places) where
  pub one_renewed : (new : Places) (passed : Bool) → test done ≡ passed → ((other : ℕ) → contains new other ≡ (if other == done then passed else contains row other)) →
      IsRightSoFar place done reporters test row → IsRightSoFar place (done + 1) reporters test new
  one_renewed new passed is made so_far section which = made section ∙ cases (section == done) refl where
    earlier : IsReportedElsewhere place reporters section ⊎ section < done + 1 → (section ≡ done → ⊥) → IsReportedElsewhere place reporters section ⊎ section < done
    earlier (inl elsewhere) apart = inl elsewhere
    earlier (inr less) apart = inr (omega (arith, less, apart))

    cases : (b : Bool) → (section == done) ≡ b → (if b then passed else contains row section) ≡ test section
    cases true here = sym is ∙ ap test (sym (eqb-true section done here))
    cases false other = so_far section (earlier which (eqb-false section done other))

  pub one_passed_over : (reporter : ℕ × ℕ) → slice_get reporters done ≡ Some reporter → (reporter.0 ≡ place → ⊥) → IsRightSoFar place done reporters test row → IsRightSoFar place (done + 1) reporters test row
  one_passed_over reporter found apart so_far section which = so_far section (earlier which) where
    here : section ≡ done → IsReportedElsewhere place reporters section
    here same other is at = apart (ap (λ (r : ℕ × ℕ). r.0) (same_Some _ _ (sym found ∙ ap (slice_get reporters) (sym same) ∙ is)) ∙ at)

    by_place : (b : Bool) → (section == done) ≡ b → section < done + 1 → IsReportedElsewhere place reporters section ⊎ section < done
    by_place true same less = inl (here (eqb-true section done same))
    by_place false other less = let apart_from : section ≡ done → ⊥ = eqb-false section done other in inr (omega (arith, less, apart_from))

    earlier : IsReportedElsewhere place reporters section ⊎ section < done + 1 → IsReportedElsewhere place reporters section ⊎ section < done
    earlier (inl elsewhere) = inl elsewhere
    earlier (inr less) = by_place (section == done) refl less

  pub all_renewed : length reporters ≤ done → IsRightSoFar place done reporters test row → (section : ℕ) → contains row section ≡ test section
  all_renewed over so_far section = so_far section (cases (nat_lt section done) refl) where
    cases : (b : Bool) → nat_lt section done ≡ b → IsReportedElsewhere place reporters section ⊎ section < done
    cases true is = inr (ltb-true section done is)
    cases false is =
        let beyond : done ≤ section = ltb-false section done is
        in inl (λ reporter found at. none_there (sym (slice_get_past reporters section (omega (arith, over, beyond))) ∙ found))

-- ---- both rows

-- what a detector tells of a section that it reports
told_there : (reporters : List (ℕ × ℕ)) (detectors : List KnownDetectorState) (section : ℕ) (reporter : ℕ × ℕ) (place : ℕ) (detector : KnownDetectorState) (says : Bool → Bool → Bool) →
    slice_get reporters section ≡ Some reporter → reporter.0 ≡ place → slice_get detectors place ≡ Some detector →
    at reporters section (λ reporter. at detectors reporter.0 (λ detector. says (is_ready detector.client.stage) (contains detector.occupied reporter.1))) ≡ says (is_ready detector.client.stage) (contains detector.occupied reporter.1)
told_there reporters detectors section reporter place detector says found is there =
    there_tests reporters (λ (reporter : ℕ × ℕ). at detectors reporter.0 (λ (detector : KnownDetectorState). says (is_ready detector.client.stage) (contains detector.occupied reporter.1))) section reporter found
    ∙ there_tests detectors (λ (detector : KnownDetectorState). says (is_ready detector.client.stage) (contains detector.occupied reporter.1)) reporter.0 detector (ap (slice_get detectors) is ∙ there)

module _ (place done : ℕ) (reporters : List (ℕ × ℕ)) (detectors : List KnownDetectorState) (rows : SectionRows) (reporter : ℕ × ℕ) (found : slice_get reporters done ≡ Some reporter)
    (so_far : AreRowsSoFar place done reporters detectors rows) where
  pub rows_renewed : (detector : KnownDetectorState) (new : SectionRows) (told : Places) (ready tells : Bool) → reporter.0 ≡ place → slice_get detectors place ≡ Some detector →
      ready ≡ is_ready detector.client.stage → told ≡ detector.occupied → tells ≡ contains told reporter.1 →
      ((other : ℕ) → contains new.clear other ≡ (if other == done then ready && not tells else contains rows.clear other)) →
      ((other : ℕ) → contains new.occupied other ≡ (if other == done then ready && tells else contains rows.occupied other)) →
      AreRowsSoFar place (done + 1) reporters detectors new
  rows_renewed detector new told ready tells here there is_ready_now told_now is clears occupies = record {
    clear = one_renewed place reporters _ done rows.clear new.clear (ready && not tells) (says (λ ready told. ready && not told)) clears so_far.clear;
    occupied = one_renewed place reporters _ done rows.occupied new.occupied (ready && tells) (says (λ ready told. ready && told)) occupies so_far.occupied;
  } where
    says : (test : Bool → Bool → Bool) →
        at reporters done (λ reporter. at detectors reporter.0 (λ detector. test (is_ready detector.client.stage) (contains detector.occupied reporter.1))) ≡ test ready tells
    says test = told_there reporters detectors done reporter place detector test found here there
        ∙ ap (λ b. test b (contains detector.occupied reporter.1)) (sym is_ready_now)
        ∙ ap (λ row. test ready (contains row reporter.1)) (sym told_now) ∙ ap (test ready) (sym is)

  pub rows_passed_over : (reporter.0 ≡ place → ⊥) → AreRowsSoFar place (done + 1) reporters detectors rows
  rows_passed_over apart = record {
    clear = one_passed_over place reporters _ done rows.clear reporter found apart so_far.clear;
    occupied = one_passed_over place reporters _ done rows.occupied reporter found apart so_far.occupied;
  }

pub all_rows_renewed : (place done : ℕ) (reporters : List (ℕ × ℕ)) (detectors : List KnownDetectorState) (rows : SectionRows) → length reporters ≤ done → AreRowsSoFar place done reporters detectors rows →
    AreSectionRows reporters detectors rows
all_rows_renewed place done reporters detectors rows over so_far = record {
  clear = all_renewed place reporters _ done rows.clear over so_far.clear;
  occupied = all_renewed place reporters _ done rows.occupied over so_far.occupied;
}

-- ---- where one detector makes a step

set_elsewhere : {A : Type 0} (list : List A) (place other : ℕ) (one : A) → (other ≡ place → ⊥) → slice_get (slice_set list place one) other ≡ slice_get list other
set_elsewhere [] place other one apart = refl
set_elsewhere (first ∷ others) zero zero one apart = absurd (apart refl)
set_elsewhere (first ∷ others) zero (suc other) one apart = refl
set_elsewhere (first ∷ others) (suc place) zero one apart = refl
set_elsewhere (first ∷ others) (suc place) (suc other) one apart = set_elsewhere others place other one (λ same. apart (ap suc same))

elsewhere_same : (reporters : List (ℕ × ℕ)) (detectors : List KnownDetectorState) (place : ℕ) (new : KnownDetectorState) (section : ℕ) (says : Bool → Bool → Bool) → IsReportedElsewhere place reporters section →
    at reporters section (λ reporter. at detectors reporter.0 (λ detector. says (is_ready detector.client.stage) (contains detector.occupied reporter.1))) ≡
    at reporters section (λ reporter. at (slice_set detectors place new) reporter.0 (λ detector. says (is_ready detector.client.stage) (contains detector.occupied reporter.1)))
unfolding at
elsewhere_same reporters detectors place new section says elsewhere = cases (slice_get reporters section) refl where
  tested : List KnownDetectorState → ℕ × ℕ → Bool
  tested list reporter = passes (λ (detector : KnownDetectorState). says (is_ready detector.client.stage) (contains detector.occupied reporter.1)) (slice_get list reporter.0)

  cases : (found : Option (ℕ × ℕ)) → slice_get reporters section ≡ found → passes (tested detectors) found ≡ passes (tested (slice_set detectors place new)) found
  cases None is = refl
  cases (Some reporter) is =
      ap (λ one. passes (λ (detector : KnownDetectorState). says (is_ready detector.client.stage) (contains detector.occupied reporter.1)) one) (sym (set_elsewhere detectors place reporter.0 new (elsewhere reporter is)))

pub rows_elsewhere : (reporters : List (ℕ × ℕ)) (detectors : List KnownDetectorState) (place : ℕ) (new : KnownDetectorState) (rows : SectionRows) → AreSectionRows reporters detectors rows →
    AreRowsSoFar place 0 reporters (slice_set detectors place new) rows
rows_elsewhere reporters detectors place new rows are = record {
  clear = λ section which. are.clear section ∙ elsewhere_same reporters detectors place new section (λ ready told. ready && not told) (elsewhere section which);
  occupied = λ section which. are.occupied section ∙ elsewhere_same reporters detectors place new section (λ ready told. ready && told) (elsewhere section which);
} where
  elsewhere : (section : ℕ) → IsReportedElsewhere place reporters section ⊎ section < 0 → IsReportedElsewhere place reporters section
  elsewhere section (inl away) = away
  elsewhere section (inr less) = absurd (omega (arith, less))

-- the field keeps what holds of it
pub field_renewed : (field : FieldState) (place : ℕ) (new one : KnownDetectorState) (reporters : List (ℕ × ℕ)) (rows renewed : SectionRows) (points : PointRows) → IsField field rows points → place < length field.detectors →
    reporters ≡ field.reporters → one ≡ get_or (slice_set field.detectors place new) place one →
    ((detectors : List KnownDetectorState) → slice_get detectors place ≡ Some one → AreRowsSoFar place 0 reporters detectors rows → AreSectionRows reporters detectors renewed) →
    IsField (record field { detectors = slice_set field.detectors place new }) renewed points
field_renewed field place new one reporters rows renewed points holds within same is makes = record {
  few_sections = holds.few_sections;
  few_points = holds.few_points;
  sections_are = subst (λ (r : List (ℕ × ℕ)). AreSectionRows r after renewed) same
      (makes after (slice_get_read after (length after) place one refl (subst (λ n. place < n) (sym (length-set field.detectors place new)) within) is)
      (subst (λ (r : List (ℕ × ℕ)). AreRowsSoFar place 0 r after rows) (sym same) (rows_elsewhere field.reporters field.detectors place new rows holds.sections_are)));
  points_are = holds.points_are;
} where
  after : List KnownDetectorState
  after = slice_set field.detectors place new
