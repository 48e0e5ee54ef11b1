-- The first whole line of a text, and those after it.
use Rattle.std.proofs.Common.{◌≡◌, ℕ, ◌+◌, ◌<◌, ◌==◌, Bool, true, false, not, cond, List, [], ◌∷◌, ◌++◌, length, Option, Some, None, Bor, Result, Ok, Err, lit<, refl, ap, append_assoc, sym, ◌∙◌, arith}
use Rattle.std.specs.Iterator.{MakesProgress, item_count}
use Rattle.std.specs.List.{slice_split, onto_first, before_first, after_first, position_or_len}
use Rattle.std.specs.Option.{MatchOption}
use Rattle.std.proofs.lemmas.List.Splits.{slice_split_first, length-slice_split}
use Rattle.std.proofs.lemmas.Str.Pattern.{IsSplitOnceResult, split_once_first}
use Rattle.control_table.specs.layout.Entries.{Site}
use Rattle.replay_lines.specs.Text.{at_line}
use Rattle.replay_lines.specs.declared.text.SessionFault.{SessionFault}
use Rattle.replay_words.specs.Cut.{words}
use Rattle.replay_words.specs.declared.fault.Fault.{Fault}
use Rattle.node_record.specs.RecordLines.{Line, line_said}
use Rattle.node_record.specs.Records.{but_last, lines_said, whole_lines}

-- a text without the byte is its own only part
split-without : (p : ℕ → Bool) (bs : List ℕ) → position_or_len p bs ≡ length bs → slice_split p bs ≡ bs ∷ []
split-without p [] h = refl
split-without p (b ∷ bs) h = one_more (p b) h (split-without p bs)
  where
    one_more : (v : Bool) → cond (not v) (1 + position_or_len p bs) 0 ≡ length (b ∷ bs)
        → (position_or_len p bs ≡ length bs → slice_split p bs ≡ bs ∷ [])
        → cond v ([] ∷ slice_split p bs) (onto_first b (slice_split p bs)) ≡ (b ∷ bs) ∷ []
    one_more true h more = absurd (omega arith)
    one_more false h more = ap (onto_first b) (more (omega arith))

-- a part before further parts stays
but_last-cons : (part : List ℕ) (parts : List (List ℕ)) → 0 < length parts → but_last (part ∷ parts) ≡ part ∷ but_last parts
but_last-cons part [] h = absurd (omega arith)
but_last-cons part (next ∷ parts) h = refl

first : (text : List ℕ) → position_or_len (λ b. b == 10) text < length text
    → whole_lines text ≡ before_first (λ b. b == 10) text ∷ whole_lines (after_first (λ b. b == 10) text)
first text h =
    let p : ℕ → Bool = λ b. b == 10 in
    ap but_last (slice_split_first p text 0 h)
    ∙ but_last-cons (before_first p text) (slice_split p (after_first p text))
    (omega (arith, length-slice_split p (after_first p text)))

last : (text : List ℕ) → position_or_len (λ b. b == 10) text ≡ length text → whole_lines text ≡ []
last text h = ap but_last (split-without (λ b. b == 10) text h)

-- the whole lines of a text, as `split_once` at a line feed finds the first
pub whole-split_once : (text : List ℕ) (r : Option (Bor (List ℕ) × Bor (List ℕ))) → IsSplitOnceResult 10 text r
    → MatchOption r (whole_lines text ≡ []) (λ x. whole_lines text ≡ x.0.now ∷ whole_lines x.1.now)
whole-split_once text r h = told r (split_once_first 10 text r h (lit< tt))
  where
    told : (r : Option (Bor (List ℕ) × Bor (List ℕ)))
        → MatchOption r (position_or_len (λ b. b == 10) text ≡ length text) (λ x. (position_or_len (λ b. b == 10) text < length text) × (x.0.now ≡ before_first (λ b. b == 10) text) × (x.1.now ≡ after_first (λ b. b == 10) text))
        → MatchOption r (whole_lines text ≡ []) (λ x. whole_lines text ≡ x.0.now ∷ whole_lines x.1.now)
    told None h = last text h
    told (Some x) h = rw (h.1, h.2) (first text h.0)

-- an iterator that shows what it has left comes nearer to its end with each item
pub progress : {A B : Type 0} (can : List B → Type 0) (before after : List B) (item : A) (first : B) → before ≡ first ∷ after → can after
    → MakesProgress can (item_count {S = List B} {A = B} (λ left. left)) before (Some item) after
progress can before after item first e callable = record {
  on = λ _. (callable, tt, omega (arith, ap length e));
  keeps = callable;
  rests = λ _. tt;
}

-- what was kept before more lines, or their fault
abbrev pub behind : {A : Type 0} → List A → Result (List A) SessionFault → Result (List A) SessionFault
behind kept (Ok more) = Ok (kept ++ more)
behind kept (Err fault) = Err fault

-- ---- what they tell

-- one more line is kept
behind-one : (kept : List Line) (number : ℕ) (this : Line) (more : Result (List Line) SessionFault) → behind (kept ++ this ∷ []) more ≡ behind kept (at_line number (Ok this) more)
behind-one kept number this (Ok more) = ap Ok (append_assoc kept (this ∷ []) more)
behind-one kept number this (Err fault) = refl

-- what a line tells is kept
pub behind_next : (site : Site) (kept new : List Line) (number : ℕ) (text : List ℕ) (old rest : List (ℕ × List ℕ)) (whole : Result (List Line) SessionFault) (this : Line)
    → old ≡ (number, text) ∷ rest → line_said site (words text) ≡ Ok this → new ≡ kept ++ this ∷ [] → behind kept (lines_said site old) ≡ whole → behind new (lines_said site rest) ≡ whole
behind_next site kept new number text old rest whole this split says more before_it =
    ap (λ (list : List Line). behind list (lines_said site rest)) more
    ∙ behind-one kept number this (lines_said site rest)
    ∙ sym (ap (λ (read : Result Line Fault). behind kept (at_line number read (lines_said site rest))) says)
    ∙ sym (ap (λ (left : List (ℕ × List ℕ)). behind kept (lines_said site left)) split)
    ∙ before_it
