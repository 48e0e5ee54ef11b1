-- Lists that grow by what comes of one entry after the other.
use Rattle.std.proofs.Common.{◌≡◌, ◌∙◌, ℕ, ◌+◌, ◌<◌, ◌≤◌, List, [], ◌∷◌, ◌++◌, Bool, true, false, length, map, take, get_or, ap, sym, append_assoc, append-nil}
use Rattle.std.specs.Prelude.{if◌then◌else◌}
use Rattle.std.proofs.lemmas.Bool.{false≢true}
use Rattle.std.proofs.lemmas.List.{flat_map_more, map-append, take_all, take_more}
use Rattle.std.specs.List.{flat_map}

module _ {X A : Type 0} (start : List A) (xs : List X) (i : ℕ) (x : X) where
  one_more : i < length xs → x ≡ get_or xs i x → take i xs ++ x ∷ [] ≡ take (i + 1) xs
  one_more within at = sym (take_more xs i x within ∙ ap (λ e. take i xs ++ e ∷ []) (sym at))

  -- by one
  pub grows : (f : X → A) (before after : List A) → i < length xs → x ≡ get_or xs i x
      → before ≡ start ++ map f (take i xs) → after ≡ before ++ f x ∷ [] → after ≡ start ++ map f (take (i + 1) xs)
  grows f before after within at was more =
      more ∙ (ap (λ b. b ++ f x ∷ []) was ∙ (append_assoc start (map f (take i xs)) (f x ∷ [])
      ∙ (ap (λ l. start ++ l) (sym (map-append f (take i xs) (x ∷ []))) ∙ ap (λ l. start ++ map f l) (one_more within at))))

  -- by several
  pub grows_by_all : (f : X → List A) (before after : List A) → i < length xs → x ≡ get_or xs i x
      → before ≡ start ++ flat_map f (take i xs) → after ≡ before ++ f x → after ≡ start ++ flat_map f (take (i + 1) xs)
  grows_by_all f before after within at was more =
      more ∙ (ap (λ b. b ++ f x) was ∙ (flat_map_more f start (take i xs) x ∙ ap (λ l. start ++ flat_map f l) (one_more within at)))

-- and when no entry is left
module _ {X A : Type 0} (start : List A) (xs : List X) (i : ℕ) (now : List A) where
  pub grown : (f : X → A) → length xs ≤ i → now ≡ start ++ map f (take i xs) → now ≡ start ++ map f xs
  grown f past so_far = so_far ∙ ap (λ l. start ++ map f l) (take_all i xs past)

  pub grown_by_all : (f : X → List A) → length xs ≤ i → now ≡ start ++ flat_map f (take i xs) → now ≡ start ++ flat_map f xs
  grown_by_all f past so_far = so_far ∙ ap (λ l. start ++ flat_map f l) (take_all i xs past)

-- what is added where a test says so, and where it doesn't
module _ {A : Type 0} (before after more : List A) where
  pub added : (test is : Bool) → is ≡ test → is ≡ true → after ≡ before ++ more → after ≡ before ++ (if test then more else [])
  added true is same holds larger = larger
  added false is same holds larger = absurd (false≢true (sym same ∙ holds))

  pub left : (test is : Bool) → is ≡ test → is ≡ false → after ≡ before → after ≡ before ++ (if test then more else [])
  left true is same fails kept = absurd (false≢true (sym fails ∙ same))
  left false is same fails kept = kept ∙ sym (append-nil before)
