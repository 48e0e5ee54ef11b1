-- A line of what was to be kept, with its things.
use Rattle.std.proofs.Common.{◌≡◌, ◌∙◌, ℕ, List, ◌∷◌, ◌++◌, ap, sym, append_assoc}
use Rattle.std.specs.Prelude.{codes}

-- what stands before the things: the word, how many releases and opens were counted, and how many things there are
abbrev pub line_before : (what releases opens count : List ℕ) → List ℕ
line_before what releases opens count = what ++ 32 ∷ (codes "releases " ++ (releases ++ (codes " opens " ++ (opens ++ (codes ": " ++ count)))))

pub joined : (what releases opens count things : List ℕ)
    → line_before what releases opens count ++ things ≡ what ++ 32 ∷ ((codes "releases " ++ (releases ++ (codes " opens " ++ opens))) ++ (codes ": " ++ (count ++ things)))
joined what releases opens count things =
    append_assoc what (32 ∷ (codes "releases " ++ (releases ++ (codes " opens " ++ (opens ++ (codes ": " ++ count)))))) things
    ∙ ap (λ (r : List ℕ). what ++ 32 ∷ (codes "releases " ++ r))
    (append_assoc releases (codes " opens " ++ (opens ++ (codes ": " ++ count))) things
    ∙ ap (λ (r : List ℕ). releases ++ (codes " opens " ++ r)) (append_assoc opens (codes ": " ++ count) things)
    ∙ sym (append_assoc releases (codes " opens " ++ opens) (codes ": " ++ (count ++ things))))

pub with_things : (what releases opens count things old new : List ℕ) → old ≡ line_before what releases opens count → new ≡ old ++ things
    → new ≡ what ++ 32 ∷ ((codes "releases " ++ (releases ++ (codes " opens " ++ opens))) ++ (codes ": " ++ (count ++ things)))
with_things what releases opens count things old new before is = is ∙ ap (λ (l : List ℕ). l ++ things) before ∙ joined what releases opens count things
