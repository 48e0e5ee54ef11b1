-- Lists, and families numbered from 0.
use Rattle.std.specs.Prelude.{◌≡◌, ◌⊎◌, ℕ, zero, suc, Bool, true, false, List, [], ◌∷◌, if◌then◌else◌}

-- the last of a list, or what stood before it where the list is empty
abbrev pub last_of : {A : Type 0} → A → List A → A
last_of before [] = before
last_of before (first ∷ later) = last_of first later

-- one of a list
abbrev pub IsOf : {A : Type 0} → A → List A → Type 0
IsOf one [] = ⊥
IsOf one (first ∷ later) = (first ≡ one) ⊎ IsOf one later

abbrev pub is_same : ℕ → ℕ → Bool
is_same zero zero = true
is_same zero (suc b) = false
is_same (suc a) zero = false
is_same (suc a) (suc b) = is_same a b

-- a family in which one is changed
abbrev pub changed_at : {A : Type 0} → ℕ → A → (ℕ → A) → ℕ → A
changed_at place new old n = if is_same n place then new else old n
