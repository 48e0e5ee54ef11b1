-- Lists that tell of the places of a table, one after the other.
use Rattle.std.specs.Prelude.{◌≡◌, ◌⊎◌, ◌<◌, ℕ, zero, suc, List, [], ◌∷◌, ◌++◌}

-- A list has one text where something holds, and is empty where it doesn't.
abbrev pub TellsIf : Type 0 → (List ℕ → Type 0) → List (List ℕ) → Type 0
TellsIf Belongs IsText texts = (Belongs × ((text : List ℕ) × IsText text × (texts ≡ text ∷ []))) ⊎ ((Belongs → ⊥) × (texts ≡ []))

-- A list has, in their order, the texts of those of the first n places that belong to it.
unfoldable pub ListsBelow : (ℕ → Type 0) → (ℕ → List ℕ → Type 0) → ℕ → List (List ℕ) → Type 0
ListsBelow Belongs IsText zero texts = texts ≡ []
ListsBelow Belongs IsText (suc k) texts =
    (front : List (List ℕ)) × (last : List (List ℕ)) × ListsBelow Belongs IsText k front × TellsIf (Belongs k) (IsText k) last × (texts ≡ front ++ last)

-- Some of the first n places belongs to a list.
abbrev pub ListsOne : (ℕ → Type 0) → ℕ → Type 0
ListsOne Belongs n = (k : ℕ) × (k < n) × Belongs k
