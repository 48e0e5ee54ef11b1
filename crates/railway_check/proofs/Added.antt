-- Texts grow part by part.
use Rattle.std.proofs.Common.{◌≡◌, ◌∙◌, ◌<◌, ◌≤◌, ◌+◌, ℕ, List, ◌++◌, ap, append_assoc, drop, get_or, length, sym, take}
use Rattle.std.proofs.lemmas.List.{append-nil, drop_all, drop_more, flat_map_more, take_more}
use Rattle.std.specs.List.{flat_map}
use Rattle.railway_check.specs.StationTexts.{each_from}

pub two_added : {A : Type 0} (old x new a b : List A) → x ≡ old ++ a → new ≡ x ++ b → new ≡ old ++ (a ++ b)
two_added old x new a b first second = second ∙ ap (λ s. s ++ b) first ∙ append_assoc old a b

-- one more piece, of the next item
pub appended_more : {X Y : Type 0} (f : X → List Y) (start so_far new : List Y) (xs : List X) (i : ℕ) (x : X)
    → i < length xs → x ≡ get_or xs i x → so_far ≡ start ++ flat_map f (take i xs) → new ≡ so_far ++ f x → new ≡ start ++ flat_map f (take (i + 1) xs)
appended_more f start so_far new xs i x lt item before is =
    is ∙ ap (λ y. so_far ++ f y) item
    ∙ (ap (λ s. s ++ f (get_or xs i x)) before ∙ (flat_map_more f start (take i xs) (get_or xs i x) ∙ ap (λ ys. start ++ flat_map f ys) (sym (take_more xs i x lt))))

-- the texts of the entries before, and of the rest
abbrev pub with_rest : {A : Type 0} (text : ℕ → A → List ℕ) → List A → (i : ℕ) → List ℕ → List ℕ
with_rest text xs i so_far = so_far ++ each_from text i (drop i xs)

-- that of one more entry
pub each_more : {A : Type 0} (text : ℕ → A → List ℕ) (xs : List A) (i : ℕ) (x : A) (so_far new total : List ℕ)
    → i < length xs → x ≡ get_or xs i x → new ≡ so_far ++ text i x → with_rest text xs i so_far ≡ total → with_rest text xs (i + 1) new ≡ total
unfolding each_from
each_more text xs i x so_far new total lt item is before =
    let one : so_far ++ each_from text i (drop i xs) ≡ new ++ each_from text (i + 1) (drop (i + 1) xs) =
    rw (drop_more xs i x lt, ← item, is) (sym (append_assoc so_far (text i x) (each_from text (i + 1) (drop (i + 1) xs)))) in
    sym one ∙ before

-- those of all entries are there
pub each_done : {A : Type 0} (text : ℕ → A → List ℕ) (xs : List A) (i : ℕ) (so_far total : List ℕ) → length xs ≤ i → with_rest text xs i so_far ≡ total → so_far ≡ total
unfolding each_from
each_done text xs i so_far total le before =
    let one : so_far ++ each_from text i (drop i xs) ≡ so_far = rw (drop_all i xs le) (append-nil so_far) in
    sym one ∙ before
