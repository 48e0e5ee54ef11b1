-- What a page shows that puts in what it lacks.
use Rattle.std.specs.Prelude.{◌≡◌, ◌<◌, ◌≤◌, ◌⊎◌, ℕ, nat_lt, if◌then◌else◌, List, [], ◌∷◌, map}
use Rattle.panel_desk.specs.Lines.{BoardView, NotedView}

abbrev pub texts : List NotedView → List (List ℕ)
texts notes = map (λ one. one.text) notes

-- At each place the line that was told after the number up to which the page knew all, and else what it showed there.
abbrev pub patched : ℕ → List (List ℕ) → List NotedView → List (List ℕ)
patched after [] [] = []
patched after [] (one ∷ more) = one.text ∷ patched after [] more
patched after (before ∷ others) [] = []
patched after (before ∷ others) (one ∷ more) =
    (if nat_lt after one.since then one.text else before) ∷ patched after others more

-- At each place the same stands as stood at a number, or what was told after it.
abbrev pub Kept : ℕ → List NotedView → List NotedView → Type 0
Kept number [] [] = Unit {0}
Kept number [] (one ∷ more) = ⊥
Kept number (before ∷ others) [] = ⊥
Kept number (before ∷ others) (one ∷ more) = ((one.text ≡ before.text) ⊎ (number < one.since)) × Kept number others more

-- A board comes of another by counting, showing and noting, where nothing is shown before it is counted on.
abbrev pub Follows : BoardView → BoardView → Type 0
Follows old new = Kept old.number old.shown new.shown
