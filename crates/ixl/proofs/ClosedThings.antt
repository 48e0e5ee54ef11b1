-- The first closed thing of those that a route would use.
use Rattle.std.proofs.Common.{◌≡◌, Bool, true, false, if◌then◌else◌, List, [], ◌∷◌, ◌++◌, map, refl, ap, sym}
use Rattle.std.specs.Prelude.{Some}
use Rattle.std.specs.Option.{option_map, option_or}
use Rattle.ixl.specs.inside.Parts.{first_where}

module _ {A B : Type 0} (f : A → B) (passes : B → Bool) where
  -- the first of things made from a list is made from the first of the list
  pub first_mapped : (list : List A) → option_map f (first_where (λ one. passes (f one)) list) ≡ first_where passes (map f list)
  first_mapped [] = refl
  first_mapped (first ∷ others) = cases (passes (f first)) (first_mapped others) where
    cases : (b : Bool) → option_map f (first_where (λ one. passes (f one)) others) ≡ first_where passes (map f others) →
        option_map f (if b then Some first else first_where (λ one. passes (f one)) others) ≡ (if b then Some (f first) else first_where passes (map f others))
    cases true behind = refl
    cases false behind = behind

-- the first of two lists is that of the one, or else that of the other
pub first_joined : {A : Type 0} (passes : A → Bool) (one other : List A) → option_or (first_where passes one) (first_where passes other) ≡ first_where passes (one ++ other)
first_joined passes [] other = refl
first_joined {A} passes (first ∷ others) other = cases (passes first) (first_joined passes others other) where
  cases : (b : Bool) → option_or (first_where passes others) (first_where passes other) ≡ first_where passes (others ++ other) →
      option_or (if b then Some first else first_where passes others) (first_where passes other) ≡ (if b then Some first else first_where passes (others ++ other))
  cases true behind = refl
  cases false behind = behind

-- it isn't the first
pub not_first : {A : Type 0} (passes : A → Bool) (first : A) (others : List A) → passes first ≡ false → first_where passes others ≡ first_where passes (first ∷ others)
not_first {A} passes first others is = ap (λ b. if b then Some first else first_where passes others) (sym is)

pub is_first : {A : Type 0} (passes : A → Bool) (first : A) (others : List A) → passes first ≡ true → Some first ≡ first_where passes (first ∷ others)
is_first {A} passes first others is = ap (λ b. if b then Some first else first_where passes others) (sym is)
