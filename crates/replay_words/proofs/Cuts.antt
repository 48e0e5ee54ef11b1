-- The first part of a text that is cut at a byte, and the parts after it.
use Rattle.std.proofs.Common.{◌≡◌, ℕ, ◌+◌, ◌<◌, ◌==◌, Bool, true, false, not, cond, List, [], ◌∷◌, length, Option, Some, None, Bor, lit<, refl, ap, ◌∙◌, arith}
use Rattle.std.specs.Iterator.{MakesProgress, item_count}
use Rattle.std.specs.Option.{MatchOption, unwrap_or}
use Rattle.std.proofs.lemmas.Str.Pattern.{IsSplitOnceResult, split_once_first}
use Rattle.std.specs.List.{slice_split, onto_first, before_first, after_first, position_or_len}
use Rattle.std.proofs.lemmas.List.Splits.{slice_split_first, length-slice_split}
use Rattle.replay_words.specs.Cut.{without_empty_last, lines, words}

-- a text without the byte is its own only part
pub slice_split-without : (p : ℕ → Bool) (bs : List ℕ) → position_or_len p bs ≡ length bs → slice_split p bs ≡ bs ∷ []
slice_split-without p [] h = refl
slice_split-without p (b ∷ bs) h = one_more (p b) h (slice_split-without p bs)
  where
    one_more : (v : Bool) → cond (not v) (1 + position_or_len p bs) 0 ≡ length (b ∷ bs)
        → (position_or_len p bs ≡ length bs → slice_split p bs ≡ bs ∷ [])
        → cond v ([] ∷ slice_split p bs) (onto_first b (slice_split p bs)) ≡ (b ∷ bs) ∷ []
    one_more true h more = absurd (omega arith)
    one_more false h more = ap (onto_first b) (more (omega arith))

-- the part before further parts is never dropped
pub without_empty_last-cons : (part : List ℕ) (parts : List (List ℕ)) → 0 < length parts
    → without_empty_last (part ∷ parts) ≡ part ∷ without_empty_last parts
without_empty_last-cons part [] h = absurd (omega arith)
without_empty_last-cons part (next ∷ parts) h = refl

-- the lines of a text that has a line feed
pub lines-first : (text : List ℕ) → position_or_len (λ b. b == 10) text < length text
    → lines text ≡ before_first (λ b. b == 10) text ∷ lines (after_first (λ b. b == 10) text)
lines-first text h =
    let p : ℕ → Bool = λ b. b == 10 in
    ap without_empty_last (slice_split_first p text 0 h)
    ∙ without_empty_last-cons (before_first p text) (slice_split p (after_first p text))
    (omega (arith, length-slice_split p (after_first p text)))

-- the only line of a text without a line feed
pub lines-last : (text : List ℕ) → position_or_len (λ b. b == 10) text ≡ length text → 0 < length text
    → lines text ≡ text ∷ []
lines-last text h nonempty =
    ap without_empty_last (slice_split-without (λ b. b == 10) text h) ∙ kept text nonempty
  where
    kept : (part : List ℕ) → 0 < length part → without_empty_last (part ∷ []) ≡ part ∷ []
    kept part h = grind arith

-- the words of a line that has a space
pub words-first : (line : List ℕ) → position_or_len (λ b. b == 32) line < length line
    → words line ≡ before_first (λ b. b == 32) line ∷ words (after_first (λ b. b == 32) line)
words-first line h = slice_split_first (λ b. b == 32) line 0 h

-- the only word of a line without a space
pub words-last : (line : List ℕ) → position_or_len (λ b. b == 32) line ≡ length line → words line ≡ line ∷ []
words-last line h = slice_split-without (λ b. b == 32) line h

-- the words of a line, as `split_once` at a space finds the first
pub words-split_once : (line : List ℕ) (r : Option (Bor (List ℕ) × Bor (List ℕ))) → IsSplitOnceResult 32 line r
    → MatchOption r (words line ≡ line ∷ []) (λ x. words line ≡ x.0.now ∷ words x.1.now)
words-split_once line r h = told r (split_once_first 32 line r h (lit< tt))
  where
    told : (r : Option (Bor (List ℕ) × Bor (List ℕ)))
        → MatchOption r (position_or_len (λ b. b == 32) line ≡ length line) (λ x. (position_or_len (λ b. b == 32) line < length line) × (x.0.now ≡ before_first (λ b. b == 32) line) × (x.1.now ≡ after_first (λ b. b == 32) line))
        → MatchOption r (words line ≡ line ∷ []) (λ x. words line ≡ x.0.now ∷ words x.1.now)
    told None h = words-last line h
    told (Some x) h = rw (h.1, h.2) (words-first line h.0)

-- the lines of a text, as `split_once` at a line feed finds the first, or else takes the whole text
pub lines-split_once : (text : List ℕ) (r : Option (Bor (List ℕ) × Bor (List ℕ))) (whole : Bor (List ℕ) × Bor (List ℕ)) → IsSplitOnceResult 10 text r
    → 0 < length text → whole.0.now ≡ text → whole.1.now ≡ []
    → lines text ≡ (unwrap_or r whole).0.now ∷ lines (unwrap_or r whole).1.now
lines-split_once text r whole h nonempty same empty = told r (split_once_first 10 text r h (lit< tt))
  where
    told : (r : Option (Bor (List ℕ) × Bor (List ℕ)))
        → MatchOption r (position_or_len (λ b. b == 10) text ≡ length text) (λ x. (position_or_len (λ b. b == 10) text < length text) × (x.0.now ≡ before_first (λ b. b == 10) text) × (x.1.now ≡ after_first (λ b. b == 10) text))
        → lines text ≡ (unwrap_or r whole).0.now ∷ lines (unwrap_or r whole).1.now
    told None h = rw (same, empty) (lines-last text h nonempty)
    told (Some x) h = rw (h.1, h.2) (lines-first text h.0)

-- an iterator that shows what it has left comes nearer to its end with each item
pub progress : {A B : Type 0} (can : List B → Type 0) (before after : List B) (item : A) (first : B) → before ≡ first ∷ after → can after
    → MakesProgress can (item_count {S = List B} {A = B} (λ left. left)) before (Some item) after
progress can before after item first e callable = record {
  on = λ _. (callable, tt, omega (arith, ap length e));
  keeps = callable;
  rests = λ _. tt;
}
