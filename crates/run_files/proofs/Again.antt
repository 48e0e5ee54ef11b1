-- Parts are read again.
use Rattle.std.proofs.Common.{◌≡◌, ◌≤◌, ◌∙◌, ℕ, Bool, true, false, if◌then◌else◌, List, [], ◌∷◌, ◌++◌, length, Some, None, refl, sym, ap, arith, append_assoc, append-nil}
use Rattle.std.proofs.lemmas.Bool.{and_parts}
use Rattle.std.specs.Prelude.{nat_le, option_and_then}
use Rattle.run_files.specs.Parts.{AllAre, Parts, ends_line, is_full, joined, next_part, nothing, parts_of, with_byte, written}
use Rattle.run_files.specs.Reads.{read_again, read_on}
use Rattle.run_files.proofs.Ends.{ends-append}
use Rattle.run_files.proofs.Known.{text_written}

abbrev pub EndsLine : List ℕ → Type 0
EndsLine part = ends_line part ≡ true

pub all-push : (P : List ℕ → Type 0) (parts : List (List ℕ)) (part : List ℕ) → AllAre P parts → P part → AllAre P (parts ++ part ∷ [])
all-push P [] part all is = (is, tt)
all-push P (one ∷ more) part all is = (all.0, all-push P more part all.1 is)

-- ---- all but the last end with a line

closed_ready : (size : ℕ) (parts : Parts) (t : Bool) → is_full size parts.opened ≡ t → AllAre EndsLine parts.closed → AllAre EndsLine (if t then next_part parts else parts).closed
closed_ready size parts true full all = all-push EndsLine parts.closed parts.opened all (and_parts (ends_line parts.opened) (nat_le size (length parts.opened)) full).0
closed_ready size parts false full all = all

pub closed_end : (size : ℕ) (text : List ℕ) (parts : Parts) → AllAre EndsLine parts.closed → AllAre EndsLine (written size text parts).closed
closed_end size [] parts all = all
closed_end size (byte ∷ text) parts all = closed_end size text (with_byte size byte parts) (closed_ready size parts (is_full size parts.opened) refl all)

-- ---- they are read again

false_true : false ≡ true → ⊥
false_true e = cc

ends_some : (bytes : List ℕ) → ends_line bytes ≡ true → 1 ≤ length bytes
ends_some [] ends = absurd (false_true ends)
ends_some (byte ∷ bytes) ends = omega arith

-- behind a text that ends with a line
reads : (text last : List ℕ) (parts : List (List ℕ)) → ends_line text ≡ true → AllAre EndsLine parts
    → read_on text (parts ++ last ∷ []) ≡ Some (text ++ joined (parts ++ last ∷ []))
reads text last [] ends all = ap (λ (t : Bool). option_and_then (λ (l : List ℕ). read_on l []) (if t then Some (text ++ last) else None)) ends ∙ ap (λ (l : List ℕ). Some (text ++ l)) (sym (append-nil last))
reads text last (part ∷ parts) ends all =
    ap (λ (t : Bool). option_and_then (λ (l : List ℕ). read_on l (parts ++ last ∷ [])) (if t then Some (text ++ part) else None)) ends
    ∙ reads (text ++ part) last parts (ends-append text part (ends_some part all.0) ∙ all.0) all.1
    ∙ ap Some (append_assoc text part (joined (parts ++ last ∷ [])))

all_read : (last : List ℕ) (parts : List (List ℕ)) → AllAre EndsLine parts → read_again (parts ++ last ∷ []) ≡ Some (joined (parts ++ last ∷ []))
all_read last [] all = ap Some (sym (append-nil last))
all_read last (part ∷ parts) all = reads part last parts all.0 all.1

pub again : (size : ℕ) (text : List ℕ) → read_again (parts_of size text) ≡ Some text
again size text =
    let parts : Parts = written size text nothing in
    all_read parts.opened parts.closed (closed_end size text nothing tt) ∙ ap Some (text_written size text nothing)
