-- Places of lists of which one place is set.
use Rattle.std.proofs.Common.{◌≡◌, ◌≢◌, ℕ, zero, suc, true, false, List, [], ◌∷◌, ◌++◌, length, Some, None, slice_get, slice_set, refl, ap, arith}
use Rattle.std.specs.Prelude.{◌==◌}
use Rattle.std.proofs.lemmas.Bool.Decides.{nat_tests}
use Rattle.std.proofs.lemmas.Option.{same_Some}
use Rattle.simulator_spec.specs.ixl_spec.State.{changed}

pub same_number : (one other : ℕ) → (one == other) ≡ true → one ≡ other
same_number one other told = grind (arith, nat_tests)

pub other_number : (one other : ℕ) → (one == other) ≡ false → one ≢ other
other_number one other told = λ same. grind (arith, nat_tests)

pub get_set : {A : Type 0} (list : List A) (place : ℕ) (old one : A) → slice_get list place ≡ Some old → slice_get (slice_set list place one) place ≡ Some one
get_set [] place old one is = absurd (none_is is) where
  none_is : None ≡ Some old → ⊥
  none_is e = cc (e)
get_set (first ∷ others) zero old one is = refl
get_set (first ∷ others) (suc place) old one is = get_set others place old one is

pub get_set_other : {A : Type 0} (list : List A) (place other : ℕ) (one : A) → other ≢ place → slice_get (slice_set list place one) other ≡ slice_get list other
get_set_other [] place other one differ = refl
get_set_other (first ∷ others) zero zero one differ = absurd (differ refl)
get_set_other (first ∷ others) zero (suc other) one differ = refl
get_set_other (first ∷ others) (suc place) zero one differ = refl
get_set_other (first ∷ others) (suc place) (suc other) one differ = get_set_other others place other one (λ same. differ (ap suc same))

pub get_changed : {A : Type 0} (change : A → A) (list : List A) (place : ℕ) (old : A) → slice_get list place ≡ Some old → slice_get (changed change place list) place ≡ Some (change old)
get_changed change [] place old is = absurd (none_is is) where
  none_is : None ≡ Some old → ⊥
  none_is e = cc (e)
get_changed change (first ∷ others) zero old is = ap (λ o. Some (change o)) (same_Some first old is)
get_changed change (first ∷ others) (suc place) old is = get_changed change others place old is

pub get_changed_other : {A : Type 0} (change : A → A) (list : List A) (place other : ℕ) → other ≢ place → slice_get (changed change place list) other ≡ slice_get list other
get_changed_other change [] place other differ = refl
get_changed_other change (first ∷ others) zero zero differ = absurd (differ refl)
get_changed_other change (first ∷ others) zero (suc other) differ = refl
get_changed_other change (first ∷ others) (suc place) zero differ = refl
get_changed_other change (first ∷ others) (suc place) (suc other) differ = get_changed_other change others place other (λ same. differ (ap suc same))

pub none_behind : {A : Type 0} (list : List A) → list ++ [] ≡ list
none_behind [] = refl
none_behind (first ∷ others) = ap (λ l. first ∷ l) (none_behind others)

pub joined_thrice : {A : Type 0} (a b c : List A) → (a ++ b) ++ c ≡ a ++ (b ++ c)
joined_thrice [] b c = refl
joined_thrice (first ∷ others) b c = ap (λ l. first ∷ l) (joined_thrice others b c)

pub none_there : {A B : Type 0} (list : List A) (other : List B) (place : ℕ) → length list ≡ length other → slice_get other place ≡ None → slice_get list place ≡ None
none_there [] other place long is = refl
none_there (one ∷ list) [] place long is = absurd (omega arith)
none_there (one ∷ list) (first ∷ others) zero long is = absurd (none_is is) where
  none_is : Some first ≡ None → ⊥
  none_is e = cc (e)
none_there (one ∷ list) (first ∷ others) (suc place) long is = none_there list others place (omega arith) is
