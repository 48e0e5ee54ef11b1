-- Lists of places, and families numbered from 0.
use Rattle.std.specs.Prelude.{◌≡◌, ◌⊎◌, ℕ, zero, suc, Bool, true, false, List, [], ◌∷◌, if◌then◌else◌}

abbrev pub is_same : ℕ → ℕ → Bool
is_same zero zero = true
is_same zero (suc b) = false
is_same (suc a) zero = false
is_same (suc a) (suc b) = is_same a b

-- a family in which one is changed
abbrev pub changed_at : {A : Type 0} → ℕ → A → (ℕ → A) → ℕ → A
changed_at number new old n = if is_same n number then new else old n

-- one of a list
abbrev pub IsOf : ℕ → List ℕ → Type 0
IsOf one [] = ⊥
IsOf one (first ∷ later) = (first ≡ one) ⊎ IsOf one later

-- the first of a list
abbrev pub IsFirst : ℕ → List ℕ → Type 0
IsFirst one [] = ⊥
IsFirst one (first ∷ later) = first ≡ one

-- one stands in a list, and the next right after it
abbrev pub IsNext : (one next : ℕ) → List ℕ → Type 0
IsNext one next [] = ⊥
IsNext one next (first ∷ later) = ((first ≡ one) × IsFirst next later) ⊎ IsNext one next later

-- the last of a list
abbrev pub IsLast : ℕ → List ℕ → Type 0
IsLast one [] = ⊥
IsLast one (first ∷ []) = first ≡ one
IsLast one (first ∷ second ∷ later) = IsLast one (second ∷ later)

-- a list ends with this one, and with these after it
abbrev pub IsEnd : (one : ℕ) → List ℕ → List ℕ → Type 0
IsEnd one after [] = ⊥
IsEnd one after (first ∷ later) = ((first ≡ one) × (later ≡ after)) ⊎ IsEnd one after later

-- a list without its last, and the other way round
abbrev pub without_last : List ℕ → List ℕ
without_last [] = []
without_last (first ∷ []) = []
without_last (first ∷ second ∷ later) = first ∷ without_last (second ∷ later)

-- a list the other way round, with others after it
abbrev pub turned_round : List ℕ → List ℕ → List ℕ
turned_round [] after = after
turned_round (first ∷ later) after = turned_round later (first ∷ after)
