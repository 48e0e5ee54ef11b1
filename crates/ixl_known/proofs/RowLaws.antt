-- Rows of the places that pass a test.
use Rattle.std.proofs.Common.{◌≡◌, ℕ, ◌+◌, ◌<◌, ◌≤◌, Bool, true, false, not, if◌then◌else◌, List, length, get_or, arith, refl, ap, sym, ◌∙◌}
use Rattle.std.specs.Prelude.{◌&&◌, ◌||◌, ◌==◌, nat_lt, Option, Some, None, slice_get}
use Rattle.std.specs.Ordering.{nat_cmp}
use Rattle.std.specs.Cmp.{nat_cmp_total, unsigned_tied}
use Rattle.std.specs.FinSet.{contains, empty, insert, contains-empty, contains-insert}
use Rattle.std.proofs.lemmas.Bool.{lt-ltb, le-ltb, ltb-true, ltb-false, eqb-true, eqb-false}
use Rattle.std.proofs.lemmas.Option.{slice_get_past, slice_get_read}
use Rattle.ixl_spec.specs.bit_row.Places.{Places}
use Rattle.ixl_spec.specs.ixl_client.Client.{is_available, is_ready}
use Rattle.ixl_spec.specs.State.{KnownDetectorState, KnownPointState}
use Rattle.ixl_spec.specs.Table.{at, passes}
use Rattle.ixl_spec.specs.View.{is_side}
use Rattle.ixl_spec.specs.sci_telegram.declared.message.Side.TheVariants as sides
use Rattle.ixl_known.specs.inside.Rows.{ArePointRows, AreSectionRows, is_at, is_free, is_told_clear, is_told_occupied, told_as, told_by}

pub put : (s : Places) (j k : ℕ) → contains (insert s j) k ≡ ((k == j) || contains s k)
put s j k = contains-insert nat_cmp_total s j k ∙ ap (λ b. b || contains s k) (unsigned_tied k j)

-- a row has those below a place that pass a test
abbrev pub HasBelow : (ℕ → Bool) → ℕ → Places → Type 0
HasBelow test done row = (k : ℕ) → contains row k ≡ (nat_lt k done && test k)

pub none_below : (test : ℕ → Bool) → HasBelow test 0 empty
none_below test k = contains-empty nat_cmp k ∙ sym (ap (λ b. b && test k) (le-ltb k 0 (omega arith)))

same_below : (k done : ℕ) → (k == done) ≡ false → nat_lt k done ≡ nat_lt k (done + 1)
same_below k done other = cases (nat_lt k done) refl where
  cases : (b : Bool) → nat_lt k done ≡ b → b ≡ nat_lt k (done + 1)
  cases true is = let below : k < done = ltb-true k done is in sym (lt-ltb k (done + 1) (omega (arith, below)))
  cases false is =
      let beyond : done ≤ k = ltb-false k done is
      in let apart : k ≡ done → ⊥ = eqb-false k done other
      in sym (le-ltb k (done + 1) (omega (arith, beyond, apart)))

or_false : (x : Bool) → (x || false) ≡ x
or_false true = refl
or_false false = refl

and_true : (x : Bool) → (x && true) ≡ x
and_true true = refl
and_true false = refl

and_false : (x : Bool) → (x && false) ≡ false
and_false true = refl
and_false false = refl

looked_at : (test : ℕ → Bool) (done : ℕ) (row : Places) (b : Bool) (k : ℕ) → test done ≡ b → HasBelow test done row → k ≡ done → (b || contains row k) ≡ (nat_lt k (done + 1) && test k)
looked_at test done row b k is so_far here =
    let below : nat_lt k (done + 1) ≡ true = lt-ltb k (done + 1) (omega (arith, here))
    in let not_yet : contains row k ≡ false = so_far k ∙ ap (λ (x : Bool). x && test k) (le-ltb k done (omega (arith, here)))
    in let tested : test k ≡ b = ap test here ∙ is
    in rw (below, not_yet, tested) (or_false b)

-- one more place is looked at
pub next_below : (test : ℕ → Bool) (done : ℕ) (row : Places) (b : Bool) → test done ≡ b → HasBelow test done row →
    (k : ℕ) → ((b && (k == done)) || contains row k) ≡ (nat_lt k (done + 1) && test k)
next_below test done row b is so_far k = cases (k == done) refl where
  cases : (e : Bool) → (k == done) ≡ e → ((b && e) || contains row k) ≡ (nat_lt k (done + 1) && test k)
  cases true here = ap (λ (x : Bool). x || contains row k) (and_true b) ∙ looked_at test done row b k is so_far (eqb-true k done here)
  cases false other = ap (λ (x : Bool). x || contains row k) (and_false b) ∙ so_far k ∙ ap (λ (x : Bool). x && test k) (same_below k done other)

-- with the place, where it passes
pub next_in : (test : ℕ → Bool) (done : ℕ) (row : Places) → test done ≡ true → HasBelow test done row → HasBelow test (done + 1) (insert row done)
next_in test done row is so_far k = put row done k ∙ next_below test done row true is so_far k

pub next_out : (test : ℕ → Bool) (done : ℕ) (row : Places) → test done ≡ false → HasBelow test done row → HasBelow test (done + 1) row
next_out test done row is so_far k = next_below test done row false is so_far k

-- all places were looked at
pub all_below : (test : ℕ → Bool) (done : ℕ) (row : Places) → ((k : ℕ) → done ≤ k → test k ≡ false) → HasBelow test done row → (k : ℕ) → contains row k ≡ test k
all_below test done row beyond so_far k = so_far k ∙ cases (nat_lt k done) refl where
  cases : (b : Bool) → nat_lt k done ≡ b → (b && test k) ≡ test k
  cases true is = refl
  cases false is = sym (beyond k (ltb-false k done is))

-- a test of what a list has beyond its end fails
pub beyond_fails : {A : Type 0} (list : List A) (test : A → Bool) (k : ℕ) → length list ≤ k → at list k test ≡ false
unfolding at
beyond_fails list test k beyond = ap (λ found. passes test found) (slice_get_past list k beyond)

pub there_tests : {A : Type 0} (list : List A) (test : A → Bool) (k : ℕ) (one : A) → slice_get list k ≡ Some one → at list k test ≡ test one
unfolding at
there_tests list test k one is = ap (λ found. passes test found) is

-- ---- sections

pub says_clear : Option Bool → Bool
says_clear None = false
says_clear (Some occupied) = not occupied

pub says_occupied : Option Bool → Bool
says_occupied None = false
says_occupied (Some occupied) = occupied

pub clear_by : (place : ℕ) (found : Option KnownDetectorState) → passes (λ (detector : KnownDetectorState). is_ready detector.client.stage && not (contains detector.occupied place)) found ≡ says_clear (told_by place found)
unfolding says_clear
clear_by place None = refl
clear_by place (Some detector) = cases (is_ready detector.client.stage) where
  cases : (b : Bool) → (b && not (contains detector.occupied place)) ≡ says_clear (if b then Some (contains detector.occupied place) else None)
  cases true = refl
  cases false = refl

pub occupied_by : (place : ℕ) (found : Option KnownDetectorState) → passes (λ (detector : KnownDetectorState). is_ready detector.client.stage && contains detector.occupied place) found ≡ says_occupied (told_by place found)
unfolding says_occupied
occupied_by place None = refl
occupied_by place (Some detector) = cases (is_ready detector.client.stage) where
  cases : (b : Bool) → (b && contains detector.occupied place) ≡ says_occupied (if b then Some (contains detector.occupied place) else None)
  cases true = refl
  cases false = refl

pub clear_is : (reporters : List (ℕ × ℕ)) (detectors : List KnownDetectorState) (section : ℕ) (reporter : ℕ × ℕ) → slice_get reporters section ≡ Some reporter →
    is_told_clear reporters detectors section ≡ says_clear (told_as detectors reporter)
unfolding at
clear_is reporters detectors section reporter is = ap (λ found. passes (λ (reporter : ℕ × ℕ). at detectors reporter.0 (λ (detector : KnownDetectorState). is_ready detector.client.stage && not (contains detector.occupied reporter.1))) found) is ∙ clear_by reporter.1 (slice_get detectors reporter.0)

pub occupied_is : (reporters : List (ℕ × ℕ)) (detectors : List KnownDetectorState) (section : ℕ) (reporter : ℕ × ℕ) → slice_get reporters section ≡ Some reporter →
    is_told_occupied reporters detectors section ≡ says_occupied (told_as detectors reporter)
unfolding at
occupied_is reporters detectors section reporter is = ap (λ found. passes (λ (reporter : ℕ × ℕ). at detectors reporter.0 (λ (detector : KnownDetectorState). is_ready detector.client.stage && contains detector.occupied reporter.1)) found) is ∙ occupied_by reporter.1 (slice_get detectors reporter.0)

-- both rows, so far
pub record HaveSections (reporters : List (ℕ × ℕ)) (detectors : List KnownDetectorState) (done : ℕ) (clear occupied : Places) : Type 0 where
  pub clear_below : HasBelow (is_told_clear reporters detectors) done clear
  pub occupied_below : HasBelow (is_told_occupied reporters detectors) done occupied

pub no_sections : (reporters : List (ℕ × ℕ)) (detectors : List KnownDetectorState) → HaveSections reporters detectors 0 empty empty
no_sections reporters detectors = record { clear_below = none_below _; occupied_below = none_below _ }

module _ (reporters : List (ℕ × ℕ)) (detectors : List KnownDetectorState) (done : ℕ) (reporter : ℕ × ℕ) (clear occupied : Places)
    (found : slice_get reporters done ≡ Some reporter) (so_far : HaveSections reporters detectors done clear occupied) where
  pub one_occupied : Some true ≡ told_as detectors reporter → HaveSections reporters detectors (done + 1) clear (insert occupied done)
  unfolding says_clear says_occupied
  one_occupied told = record {
    clear_below = next_out _ done clear (clear_is reporters detectors done reporter found ∙ ap says_clear (sym told)) so_far.clear_below;
    occupied_below = next_in _ done occupied (occupied_is reporters detectors done reporter found ∙ ap says_occupied (sym told)) so_far.occupied_below;
  }

  pub one_clear : Some false ≡ told_as detectors reporter → HaveSections reporters detectors (done + 1) (insert clear done) occupied
  unfolding says_clear says_occupied
  one_clear told = record {
    clear_below = next_in _ done clear (clear_is reporters detectors done reporter found ∙ ap says_clear (sym told)) so_far.clear_below;
    occupied_below = next_out _ done occupied (occupied_is reporters detectors done reporter found ∙ ap says_occupied (sym told)) so_far.occupied_below;
  }

  pub one_unknown : None ≡ told_as detectors reporter → HaveSections reporters detectors (done + 1) clear occupied
  unfolding says_clear says_occupied
  one_unknown told = record {
    clear_below = next_out _ done clear (clear_is reporters detectors done reporter found ∙ ap says_clear (sym told)) so_far.clear_below;
    occupied_below = next_out _ done occupied (occupied_is reporters detectors done reporter found ∙ ap says_occupied (sym told)) so_far.occupied_below;
  }

pub all_sections : (reporters : List (ℕ × ℕ)) (detectors : List KnownDetectorState) (done : ℕ) (clear occupied : Places) → length reporters ≤ done → HaveSections reporters detectors done clear occupied →
    AreSectionRows reporters detectors (record { clear = clear; occupied = occupied })
all_sections reporters detectors done clear occupied over so_far = record {
  clear = all_below _ done clear (λ k beyond. beyond_fails reporters _ k (omega (arith, over, beyond))) so_far.clear_below;
  occupied = all_below _ done occupied (λ k beyond. beyond_fails reporters _ k (omega (arith, over, beyond))) so_far.occupied_below;
}

-- ---- points

pub record HavePoints (known_points : List KnownPointState) (done : ℕ) (available right left : Places) : Type 0 where
  pub available_below : HasBelow (is_free known_points) done available
  pub right_below : HasBelow (is_at sides.Right known_points) done right
  pub left_below : HasBelow (is_at sides.Left known_points) done left

pub no_points : (known_points : List KnownPointState) → HavePoints known_points 0 empty empty empty
no_points known_points = record { available_below = none_below _; right_below = none_below _; left_below = none_below _ }

abbrev pub IsWithWhere : Places → ℕ → Bool → Places → Type 0
IsWithWhere row place passed new = (other : ℕ) → contains new other ≡ ((passed && (other == place)) || contains row other)

next_where : (test : ℕ → Bool) (done : ℕ) (row new : Places) (passed : Bool) → test done ≡ passed → HasBelow test done row → IsWithWhere row done passed new → HasBelow test (done + 1) new
next_where test done row new passed is so_far made k = made k ∙ next_below test done row passed is so_far k

pub one_point : (known_points : List KnownPointState) (done : ℕ) (known_point : KnownPointState) (available right left new_available new_right new_left : Places) (is_available_now is_right is_left : Bool) →
    done < length known_points → known_point ≡ get_or known_points done known_point → HavePoints known_points done available right left →
    is_available_now ≡ is_available known_point.client.stage →
    is_right ≡ (is_available known_point.client.stage && is_side sides.Right known_point.side) → is_left ≡ (is_available known_point.client.stage && is_side sides.Left known_point.side) →
    IsWithWhere available done is_available_now new_available → IsWithWhere right done is_right new_right → IsWithWhere left done is_left new_left →
    HavePoints known_points (done + 1) new_available new_right new_left
one_point known_points done known_point available right left new_available new_right new_left is_available_now is_right is_left within is so_far first second third one two three =
    let found : slice_get known_points done ≡ Some known_point = slice_get_read known_points (length known_points) done known_point refl within is
    in record {
      available_below = next_where (is_free known_points) done available new_available is_available_now (there_tests known_points (λ (w : KnownPointState). is_available w.client.stage) done known_point found ∙ sym first) so_far.available_below one;
      right_below = next_where (is_at sides.Right known_points) done right new_right is_right (there_tests known_points (λ (w : KnownPointState). is_available w.client.stage && is_side sides.Right w.side) done known_point found ∙ sym second) so_far.right_below two;
      left_below = next_where (is_at sides.Left known_points) done left new_left is_left (there_tests known_points (λ (w : KnownPointState). is_available w.client.stage && is_side sides.Left w.side) done known_point found ∙ sym third) so_far.left_below three;
    }

pub all_points : (known_points : List KnownPointState) (done : ℕ) (available right left : Places) → length known_points ≤ done → HavePoints known_points done available right left →
    ArePointRows known_points (record { available = available; right = right; left = left })
all_points known_points done available right left over so_far = record {
  available = all_below _ done available (λ k beyond. beyond_fails known_points _ k (omega (arith, over, beyond))) so_far.available_below;
  right = all_below _ done right (λ k beyond. beyond_fails known_points _ k (omega (arith, over, beyond))) so_far.right_below;
  left = all_below _ done left (λ k beyond. beyond_fails known_points _ k (omega (arith, over, beyond))) so_far.left_below;
}

pub where_passed : (row : Places) (place : ℕ) → IsWithWhere row place true (insert row place)
where_passed row place other = put row place other
