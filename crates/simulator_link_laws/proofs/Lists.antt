-- Places of lists that stand one after another, and a list of which one place is set.
use Rattle.std.proofs.Common.{◌≡◌, ◌≢◌, ℕ, zero, suc, ◌+◌, ◌<◌, Bool, true, false, List, [], ◌∷◌, ◌++◌, length, map, Some, None, option_map, slice_get, slice_set, refl, ap, ◌∙◌, arith, inl, inr, if◌then◌else◌}
use Rattle.std.specs.Prelude.{◌⊎◌, ◌==◌, ◌&&◌}
use Rattle.std.proofs.lemmas.Bool.Decides.{nat_tests}
use Rattle.std.proofs.lemmas.Bool.{false≢true}
use Rattle.std.proofs.lemmas.Option.{same_Some}
use Rattle.simulator_spec.specs.ixl_spec.State.{changed}

-- ---- tests

pub by_test : {A : Type 0} (P : A → Type 0) (test : Bool) (one other : A) → (test ≡ true → P one) → (test ≡ false → P other) → P (if test then one else other)
by_test P true one other if_true if_false = if_true refl
by_test P false one other if_true if_false = if_false refl

pub same_number : (one other : ℕ) → (one == other) ≡ true → one ≡ other
same_number one other told = grind (arith, nat_tests)

pub other_number : (one other : ℕ) → (one == other) ≡ false → one ≢ other
other_number one other told = λ same. grind (arith, nat_tests)

pub itself : (one : ℕ) → (one == one) ≡ true
itself one = grind (arith, nat_tests)

pub unequal : (one other : ℕ) → one ≢ other → (one == other) ≡ false
unequal one other differ = cases (one == other) refl where
  cases : (b : Bool) → (one == other) ≡ b → (one == other) ≡ false
  cases true e = absurd (differ (same_number one other e))
  cases false e = e

-- two numbers are the same, or they aren't
pub same_or_other : (one other : ℕ) → (one ≡ other) ⊎ (one ≢ other)
same_or_other one other = cases (one == other) refl where
  cases : (b : Bool) → (one == other) ≡ b → (one ≡ other) ⊎ (one ≢ other)
  cases true e = inl (same_number one other e)
  cases false e = inr (other_number one other e)

pub both_true : (a b : Bool) → a && b ≡ true → (a ≡ true) × (b ≡ true)
both_true true b is = (refl, is)
both_true false b is = absurd (false≢true is)

-- ---- one place

pub get_set : {A : Type 0} (list : List A) (place : ℕ) (one : A) → place < length list → slice_get (slice_set list place one) place ≡ Some one
get_set [] place one within = absurd (omega arith)
get_set (first ∷ others) zero one within = refl
get_set (first ∷ others) (suc place) one within = get_set others place one (omega arith)

pub get_set_other : {A : Type 0} (list : List A) (place other : ℕ) (one : A) → other ≢ place → slice_get (slice_set list place one) other ≡ slice_get list other
get_set_other [] place other one differ = refl
get_set_other (first ∷ others) zero zero one differ = absurd (differ refl)
get_set_other (first ∷ others) zero (suc other) one differ = refl
get_set_other (first ∷ others) (suc place) zero one differ = refl
get_set_other (first ∷ others) (suc place) (suc other) one differ = get_set_other others place other one (λ same. differ (ap suc same))

pub some_within : {A : Type 0} (list : List A) (place : ℕ) → place < length list → (one : A) × (slice_get list place ≡ Some one)
some_within [] place within = absurd (omega arith)
some_within (first ∷ others) zero within = (first, refl)
some_within (first ∷ others) (suc place) within = some_within others place (omega arith)

pub within_some : {A : Type 0} (list : List A) (place : ℕ) (one : A) → slice_get list place ≡ Some one → place < length list
within_some [] place one is = absurd (none_is is) where
  none_is : None ≡ Some one → ⊥
  none_is e = cc (e)
within_some (first ∷ others) zero one is = omega arith
within_some (first ∷ others) (suc place) one is = let h = within_some others place one is in omega arith

-- ---- lists one after another

pub get_left : {A : Type 0} (first rest : List A) (place : ℕ) → place < length first → slice_get (first ++ rest) place ≡ slice_get first place
get_left [] rest place within = absurd (omega arith)
get_left (one ∷ others) rest zero within = refl
get_left (one ∷ others) rest (suc place) within = get_left others rest place (omega arith)

pub get_right : {A : Type 0} (first rest : List A) (place n : ℕ) → n ≡ length first + place → slice_get (first ++ rest) n ≡ slice_get rest place
get_right [] rest place n is = ap (slice_get rest) same where
  same : n ≡ place
  same = omega arith
get_right (one ∷ others) rest place zero is = absurd (omega arith)
get_right (one ∷ others) rest place (suc n) is = get_right others rest place n (omega arith)

pub set_left : {A : Type 0} (first rest : List A) (place : ℕ) (one : A) → place < length first → slice_set first place one ++ rest ≡ slice_set (first ++ rest) place one
set_left [] rest place one within = absurd (omega arith)
set_left (head ∷ others) rest zero one within = refl
set_left (head ∷ others) rest (suc place) one within = ap (λ l. head ∷ l) (set_left others rest place one (omega arith))

pub set_right : {A : Type 0} (first rest : List A) (place n : ℕ) (one : A) → n ≡ length first + place → first ++ slice_set rest place one ≡ slice_set (first ++ rest) n one
set_right [] rest place n one is = ap (λ p. slice_set rest p one) same where
  same : place ≡ n
  same = omega arith
set_right (head ∷ others) rest place zero one is = absurd (omega arith)
set_right (head ∷ others) rest place (suc n) one is = ap (λ l. head ∷ l) (set_right others rest place n one (omega arith))

pub map_set : {A B : Type 0} (f : A → B) (list : List A) (place : ℕ) (one : A) → map f (slice_set list place one) ≡ slice_set (map f list) place (f one)
map_set f [] place one = refl
map_set f (first ∷ others) zero one = refl
map_set f (first ∷ others) (suc place) one = ap (λ l. f first ∷ l) (map_set f others place one)

pub length_map : {A B : Type 0} (f : A → B) (list : List A) → length (map f list) ≡ length list
length_map f [] = refl
length_map f (first ∷ others) = ap suc (length_map f others)

pub length_set : {A : Type 0} (list : List A) (place : ℕ) (one : A) → length (slice_set list place one) ≡ length list
length_set [] place one = refl
length_set (first ∷ others) zero one = refl
length_set (first ∷ others) (suc place) one = ap suc (length_set others place one)

pub length_joined : {A : Type 0} (first rest : List A) → length (first ++ rest) ≡ length first + length rest
length_joined [] rest = zero_first (length rest) where
  zero_first : (n : ℕ) → n ≡ 0 + n
  zero_first n = omega arith
length_joined (one ∷ others) rest = ap suc (length_joined others rest) ∙ suc_first (length others) (length rest) where
  suc_first : (a b : ℕ) → suc (a + b) ≡ suc a + b
  suc_first a b = omega arith

pub get_map : {A B : Type 0} (f : A → B) (list : List A) (place : ℕ) → slice_get (map f list) place ≡ option_map f (slice_get list place)
get_map f [] place = refl
get_map f (first ∷ others) zero = refl
get_map f (first ∷ others) (suc place) = get_map f others place

-- ---- one is changed

pub changed_to : {A : Type 0} (one : A) (place : ℕ) (list : List A) → changed (λ old. one) place list ≡ slice_set list place one
changed_to one place [] = refl
changed_to one zero (first ∷ others) = refl
changed_to one (suc place) (first ∷ others) = ap (λ l. first ∷ l) (changed_to one place others)

pub changed_one : {A : Type 0} (change : A → A) (place : ℕ) (list : List A) (one : A) → slice_get list place ≡ Some one → changed change place list ≡ slice_set list place (change one)
changed_one change place [] one is = refl
changed_one change zero (first ∷ others) one is = ap (λ o. change o ∷ others) (same_Some first one is)
changed_one change (suc place) (first ∷ others) one is = ap (λ l. first ∷ l) (changed_one change place others one is)
