-- Texts grow part by part.
use Rattle.std.proofs.Common.{◌≡◌, ◌∙◌, ◌<◌, ◌+◌, ℕ, List, ◌++◌, ap, append_assoc, get_or, length, sym, take}
use Rattle.std.proofs.lemmas.List.{flat_map_more, take_more}
use Rattle.std.specs.List.{flat_map}

pub two_added : (old x new a b : List ℕ) → x ≡ old ++ a → new ≡ x ++ b → new ≡ old ++ (a ++ b)
two_added old x new a b first second = second ∙ ap (λ s. s ++ b) first ∙ append_assoc old a b

pub three_added : (old x y new a b c : List ℕ) → x ≡ old ++ a → y ≡ x ++ b → new ≡ y ++ c → new ≡ old ++ (a ++ (b ++ c))
three_added old x y new a b c first second third = two_added old x new a (b ++ c) first (two_added x y new b c second third)

pub four_added : (old x y z new a b c d : List ℕ) → x ≡ old ++ a → y ≡ x ++ b → z ≡ y ++ c → new ≡ z ++ d → new ≡ old ++ (a ++ (b ++ (c ++ d)))
four_added old x y z new a b c d first second third fourth = two_added old x new a (b ++ (c ++ d)) first (three_added x y z new b c d second third fourth)

pub five_added : (old x y z w new a b c d e : List ℕ) → x ≡ old ++ a → y ≡ x ++ b → z ≡ y ++ c → w ≡ z ++ d → new ≡ w ++ e → new ≡ old ++ (a ++ (b ++ (c ++ (d ++ e))))
five_added old x y z w new a b c d e first second third fourth fifth = two_added old x new a (b ++ (c ++ (d ++ e))) first (four_added x y z w new b c d e second third fourth fifth)

-- one more piece, of the next item
pub appended_more : {X : Type 0} (f : X → List ℕ) (start so_far new : List ℕ) (xs : List X) (i : ℕ) (x : X)
    → i < length xs → x ≡ get_or xs i x → so_far ≡ start ++ flat_map f (take i xs) → new ≡ so_far ++ f x → new ≡ start ++ flat_map f (take (i + 1) xs)
appended_more f start so_far new xs i x lt item before is =
    is ∙ ap (λ y. so_far ++ f y) item
    ∙ (ap (λ s. s ++ f (get_or xs i x)) before ∙ (flat_map_more f start (take i xs) (get_or xs i x) ∙ ap (λ ys. start ++ flat_map f ys) (sym (take_more xs i x lt))))

-- the same, where the item is read by its place
pub appended_at : {X : Type 0} (f : X → List ℕ) (start so_far new : List ℕ) (xs : List X) (i : ℕ) (d : X)
    → i < length xs → so_far ≡ start ++ flat_map f (take i xs) → new ≡ so_far ++ f (get_or xs i d) → new ≡ start ++ flat_map f (take (i + 1) xs)
appended_at f start so_far new xs i d lt before is =
    is ∙ (ap (λ s. s ++ f (get_or xs i d)) before ∙ (flat_map_more f start (take i xs) (get_or xs i d) ∙ ap (λ ys. start ++ flat_map f ys) (sym (take_more xs i d lt))))
