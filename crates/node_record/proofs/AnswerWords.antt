-- The words of answers, as a list of them holds a word.
use Rattle.std.proofs.Common.{◌≡◌, ◌∙◌, ℕ, Bool, true, false, List, [], ◌∷◌, refl, sym}
use Rattle.std.specs.Prelude.{◌||◌, codes}
use Rattle.std.specs.List.{list_any}
use Rattle.std.specs.Str.{bytes_eq}
use Rattle.std.proofs.lemmas.Slice.Eq.{bytes_eq-Decides}
use Rattle.node_record.specs.NodeChanges.{is_answer}

same : (a b : Bool) → (a ≡ true → b ≡ true) → (b ≡ true → a ≡ true) → a ≡ b
same true true on back = refl
same true false on back = sym (on refl)
same false true on back = back refl
same false false on back = refl

turned : (a b : List ℕ) → bytes_eq a b ≡ bytes_eq b a
turned a b =
    same (bytes_eq a b) (bytes_eq b a)
    (λ is. (bytes_eq-Decides b a).1 (sym ((bytes_eq-Decides a b).0 is)))
    (λ is. (bytes_eq-Decides a b).1 (sym ((bytes_eq-Decides b a).0 is)))

or_false : (a : Bool) → a ≡ (a || false)
or_false true = refl
or_false false = refl

abbrev answers : List (List ℕ)
answers = codes "accepted" ∷ codes "refused" ∷ codes "holding" ∷ codes "waiting" ∷ []

pub is_answer_word : (word : List ℕ) → is_answer word ≡ list_any (λ answer. bytes_eq answer word) answers
is_answer_word word =
    λ i. turned word (codes "accepted") i || (turned word (codes "refused") i || (turned word (codes "holding") i || last i))
  where
    last : bytes_eq word (codes "waiting") ≡ (bytes_eq (codes "waiting") word || false)
    last = turned word (codes "waiting") ∙ or_false (bytes_eq (codes "waiting") word)
