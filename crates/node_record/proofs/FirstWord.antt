-- The first word of a line, as `split_once` finds it.
use Rattle.std.proofs.Common.{◌≡◌, ◌==◌, ℕ, ◌<◌, ◌+◌, Bool, List, [], length, Option, Some, None, Bor, lit<, sym, arith}
use Rattle.std.specs.List.{after_first, before_first, position_or_len}
use Rattle.std.specs.Option.{MatchOption}
use Rattle.std.proofs.lemmas.List.{drop_all, take_all}
use Rattle.std.proofs.lemmas.Str.Pattern.{IsSplitOnceResult, split_once_first}
use Rattle.node_record.specs.Courses.{parted}

abbrev both : List ℕ → List ℕ → List ℕ × List ℕ
both a b = (a, b)

-- a line without a space is its own first word, and nothing stands after it
alone : (line : List ℕ) → position_or_len (λ b. b == 32) line ≡ length line → both line [] ≡ parted line
alone line none =
    let p : ℕ → Bool = λ b. b == 32 in
    let first : line ≡ before_first p line = sym (take_all (position_or_len p line) line (omega (arith, none))) in
    let behind : [] ≡ after_first p line = sym (drop_all (position_or_len p line + 1) line (omega (arith, none))) in
    λ i. both (first i) (behind i)

-- what `split_once` finds
pub split_is : (line : List ℕ) (r : Option (Bor (List ℕ) × Bor (List ℕ))) → IsSplitOnceResult 32 line r → MatchOption r (both line [] ≡ parted line) (λ x. both x.0.now x.1.now ≡ parted line)
split_is line r h = told r (split_once_first 32 line r h (lit< tt))
  where
    told : (r : Option (Bor (List ℕ) × Bor (List ℕ)))
        → MatchOption r (position_or_len (λ b. b == 32) line ≡ length line) (λ x. (position_or_len (λ b. b == 32) line < length line) × (x.0.now ≡ before_first (λ b. b == 32) line) × (x.1.now ≡ after_first (λ b. b == 32) line))
        → MatchOption r (both line [] ≡ parted line) (λ x. both x.0.now x.1.now ≡ parted line)
    told None h = alone line h
    told (Some x) h = λ i. both (h.1 i) (h.2 i)
