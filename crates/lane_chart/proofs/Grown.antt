-- Lists that grow entry by entry.
use Rattle.std.proofs.Common.{◌≡◌, ◌∙◌, ℕ, ◌+◌, ◌<◌, ◌≤◌, List, [], ◌∷◌, ◌++◌, length, take, get_or, map, ap, sym, append_assoc}
use Rattle.std.proofs.lemmas.List.{flat_map_more, map_more, take_all, take_more}
use Rattle.std.specs.List.{flat_map}

module _ {X A : Type 0} (start : List A) (xs : List X) (i : ℕ) (x : X) (before after : List A) where
  -- by what an entry gives
  pub grows : (f : X → List A) → i < length xs → x ≡ get_or xs i x → before ≡ start ++ flat_map f (take i xs) → after ≡ before ++ f x → after ≡ start ++ flat_map f (take (i + 1) xs)
  grows f within at was more =
      more ∙ (ap (λ b. b ++ f x) was ∙ (flat_map_more f start (take i xs) x
      ∙ ap (λ l. start ++ flat_map f l) (sym (take_more xs i x within ∙ ap (λ e. take i xs ++ e ∷ []) (sym at)))))

  -- by one
  pub grows_by_one : (f : X → A) → i < length xs → x ≡ get_or xs i x → before ≡ start ++ map f (take i xs) → after ≡ before ++ f x ∷ [] → after ≡ start ++ map f (take (i + 1) xs)
  grows_by_one f within at was more =
      more ∙ (ap (λ b. b ++ f x ∷ []) was ∙ (append_assoc start (map f (take i xs)) (f x ∷ [])
      ∙ ap (λ l. start ++ l) (sym (map_more f xs i x within ∙ ap (λ e. map f (take i xs) ++ f e ∷ []) (sym at)))))

-- and when no entry is left
pub grown_by_all : {X A : Type 0} (f : X → A) (start : List A) (xs : List X) (i : ℕ) (now : List A) → length xs ≤ i → now ≡ start ++ map f (take i xs) → now ≡ start ++ map f xs
grown_by_all f start xs i now past so_far = so_far ∙ ap (λ l. start ++ map f l) (take_all i xs past)
