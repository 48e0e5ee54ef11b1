-- Lists grow part by part.
use Rattle.std.proofs.Common.{◌≡◌, ◌∙◌, ◌<◌, ◌≤◌, ◌+◌, ℕ, List, [], ◌∷◌, ◌++◌, ap, append_assoc, drop, get_or, length, refl, sym, take}
use Rattle.std.proofs.lemmas.List.{append-nil, drop_all, drop_more, flat_map_more, take_more}
use Rattle.std.specs.List.{flat_map}
use Rattle.railway_layout.specs.declared.fault.RailwayFault.{RailwayFault}
use Rattle.railway_layout.specs.Faults.{each_from}

pub two_added : {A : Type 0} (old x new a b : List A) → x ≡ old ++ a → new ≡ x ++ b → new ≡ old ++ (a ++ b)
two_added old x new a b first second = second ∙ ap (λ s. s ++ b) first ∙ append_assoc old a b

pub three_added : {A : Type 0} (old x y new a b c : List A) → x ≡ old ++ a → y ≡ x ++ b → new ≡ y ++ c → new ≡ old ++ (a ++ (b ++ c))
three_added old x y new a b c first second third = two_added old x new a (b ++ c) first (two_added x y new b c second third)

pub four_added : {A : Type 0} (old x y z new a b c d : List A) → x ≡ old ++ a → y ≡ x ++ b → z ≡ y ++ c → new ≡ z ++ d → new ≡ old ++ (a ++ (b ++ (c ++ d)))
four_added old x y z new a b c d first second third fourth = two_added old x new a (b ++ (c ++ d)) first (three_added x y z new b c d second third fourth)

pub five_added : {A : Type 0} (old x y z w new a b c d e : List A) → x ≡ old ++ a → y ≡ x ++ b → z ≡ y ++ c → w ≡ z ++ d → new ≡ w ++ e → new ≡ old ++ (a ++ (b ++ (c ++ (d ++ e))))
five_added old x y z w new a b c d e first second third fourth fifth = two_added old x new a (b ++ (c ++ (d ++ e))) first (four_added x y z w new b c d e second third fourth fifth)

-- one more piece, of the next item
pub appended_more : {X Y : Type 0} (f : X → List Y) (start so_far new : List Y) (xs : List X) (i : ℕ) (x : X)
    → i < length xs → x ≡ get_or xs i x → so_far ≡ start ++ flat_map f (take i xs) → new ≡ so_far ++ f x → new ≡ start ++ flat_map f (take (i + 1) xs)
appended_more f start so_far new xs i x lt item before is =
    is ∙ ap (λ y. so_far ++ f y) item
    ∙ (ap (λ s. s ++ f (get_or xs i x)) before ∙ (flat_map_more f start (take i xs) (get_or xs i x) ∙ ap (λ ys. start ++ flat_map f ys) (sym (take_more xs i x lt))))

-- the faults of the entries before, and of the rest
abbrev pub with_rest : {A : Type 0} (faults : ℕ → A → List RailwayFault) → List A → (i : ℕ) → List RailwayFault → List RailwayFault
with_rest faults xs i so_far = so_far ++ each_from faults i (drop i xs)

-- those of one more entry
pub each_more : {A : Type 0} (faults : ℕ → A → List RailwayFault) (xs : List A) (i : ℕ) (x : A) (so_far new total : List RailwayFault)
    → i < length xs → x ≡ get_or xs i x → new ≡ so_far ++ faults i x → with_rest faults xs i so_far ≡ total → with_rest faults xs (i + 1) new ≡ total
unfolding each_from
each_more faults xs i x so_far new total lt item is before =
    let one : so_far ++ each_from faults i (drop i xs) ≡ new ++ each_from faults (i + 1) (drop (i + 1) xs) =
    rw (drop_more xs i x lt, ← item, is) (sym (append_assoc so_far (faults i x) (each_from faults (i + 1) (drop (i + 1) xs)))) in
    sym one ∙ before

-- all entries are told
pub each_done : {A : Type 0} (faults : ℕ → A → List RailwayFault) (xs : List A) (i : ℕ) (so_far total : List RailwayFault)
    → length xs ≤ i → with_rest faults xs i so_far ≡ total → so_far ≡ total
unfolding each_from
each_done faults xs i so_far total le before =
    let one : so_far ++ each_from faults i (drop i xs) ≡ so_far = rw (drop_all i xs le) (append-nil so_far) in
    sym one ∙ before
