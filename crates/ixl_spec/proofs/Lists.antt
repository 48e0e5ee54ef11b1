-- What a list has.
use Rattle.std.proofs.Common.{◌≡◌, ◌⊎◌, zero, suc, inl, inr, List, [], ◌∷◌, refl, arith}
use Rattle.std.specs.List.{Contains}

module _ {X : Type 0} where
  pub contains-none : (x : X) → Contains [] x → ⊥
  contains-none x h = absurd (omega (arith, h.1))

  pub contains-here : (x : X) (xs : List X) → Contains (x ∷ xs) x
  contains-here x xs = (0, omega arith, refl)

  pub contains-there : (x y : X) (xs : List X) → Contains xs y → Contains (x ∷ xs) y
  contains-there x y xs (k, lt, at) = (suc k, omega (arith, lt), at)

  pub contains-cases : (x y : X) (xs : List X) → Contains (x ∷ xs) y → (x ≡ y) ⊎ Contains xs y
  contains-cases x y xs (zero, lt, at) = inl at
  contains-cases x y xs (suc k, lt, at) = inr (k, omega (arith, lt), at)
