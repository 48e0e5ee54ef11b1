-- Lists that grow entry by entry.
use Rattle.std.proofs.Common.{◌≡◌, ◌∙◌, ℕ, ◌+◌, ◌<◌, ◌≤◌, List, [], ◌∷◌, ◌++◌, length, take, get_or, ap, sym}
use Rattle.std.proofs.lemmas.List.{flat_map_more, take_all, take_more}
use Rattle.std.specs.List.{flat_map}

module _ {X A : Type 0} (f : X → List A) (start : List A) (xs : List X) where
  pub grows : (i : ℕ) (x : X) (before after : List A) → i < length xs → x ≡ get_or xs i x → before ≡ start ++ flat_map f (take i xs) → after ≡ before ++ f x → after ≡ start ++ flat_map f (take (i + 1) xs)
  grows i x before after within at was more =
      more ∙ (ap (λ b. b ++ f x) was ∙ (flat_map_more f start (take i xs) x
      ∙ ap (λ l. start ++ flat_map f l) (sym (take_more xs i x within ∙ ap (λ e. take i xs ++ e ∷ []) (sym at)))))

  -- and when no entry is left
  pub grown_by_all : (i : ℕ) (now : List A) → length xs ≤ i → now ≡ start ++ flat_map f (take i xs) → now ≡ start ++ flat_map f xs
  grown_by_all i now past so_far = so_far ∙ ap (λ l. start ++ flat_map f l) (take_all i xs past)
