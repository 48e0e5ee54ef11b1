-- How the code reads lines.
use Rattle.std.proofs.Common.{◌≡◌, ◌∙◌, ℕ, Bool, true, false, cond, List, ◌∷◌, Option, Some, None, refl, sym, ap, subst}
use Rattle.std.specs.Prelude.{codes}
use Rattle.std.specs.List.{list_all, slice_split}
use Rattle.std.specs.Str.{IsUtf8, bytes_eq}
use Rattle.closings.specs.layout.Entries.{Site}
use Rattle.closings.specs.declared.closed.Closings.{Closings}
use Rattle.closings.specs.declared.thing.Named.{Named}
use Rattle.closings.specs.Things.{HasNamed}
use Rattle.closings.specs.Words.{is_plain, named_by, words_of}
use Rattle.closings_file.specs.Texts.{ended, ends_line, line_read, lines_read, read_on, said_in}
use Rattle.closings_file.proofs.Bytes.{parts_of, plain_text}

-- what is no text names nothing
pub unnamed : (l : Site) (words : List ℕ) → ((n : Named) → named_by l words ≡ Some n → HasNamed l n × (words ≡ words_of l n))
    → ((n : Named) → HasNamed l n → list_all is_plain (words_of l n) ≡ true) → (IsUtf8 words → ⊥) → None ≡ named_by l words
unnamed l words says plain never = by (named_by l words) refl
  where
    by : (o : Option Named) → named_by l words ≡ o → None ≡ o
    by None e = refl
    by (Some n) e =
        let said = says n e in
        absurd (never (subst (λ (w : List ℕ). IsUtf8 w) (sym said.1) (plain_text (words_of l n) (plain n said.0))))

-- the last line
pub last_line : (l : Site) (c : Closings) (rest line behind : List ℕ) → slice_split ends_line rest ≡ line ∷ slice_split ends_line behind → bytes_eq line (codes "end") ≡ true
    → lines_read l (slice_split ends_line rest) c ≡ ended c (slice_split ends_line behind)
last_line l c rest line behind split is =
    let parts = parts_of behind in
    ap (λ (p : List (List ℕ)). lines_read l p c) split
    ∙ ap (λ (p : List (List ℕ)). line_read l line p (lines_read l (slice_split ends_line behind)) c) parts.are
    ∙ ap (λ (v : Bool). cond v (ended c (parts.first ∷ parts.others)) (read_on (said_in l line) (lines_read l (slice_split ends_line behind)) c)) is
    ∙ ap (ended c) (sym parts.are)

-- another one
pub next_line : (l : Site) (c : Closings) (rest line behind : List ℕ) → slice_split ends_line rest ≡ line ∷ slice_split ends_line behind → bytes_eq line (codes "end") ≡ false
    → lines_read l (slice_split ends_line rest) c ≡ read_on (said_in l line) (lines_read l (slice_split ends_line behind)) c
next_line l c rest line behind split is =
    let parts = parts_of behind in
    ap (λ (p : List (List ℕ)). lines_read l p c) split
    ∙ ap (λ (p : List (List ℕ)). line_read l line p (lines_read l (slice_split ends_line behind)) c) parts.are
    ∙ ap (λ (v : Bool). cond v (ended c (parts.first ∷ parts.others)) (read_on (said_in l line) (lines_read l (slice_split ends_line behind)) c)) is
