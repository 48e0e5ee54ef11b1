-- Lines that were written are read.
use Rattle.std.proofs.Common.{◌≡◌, ◌∙◌, ℕ, zero, suc, ◌+◌, ◌-◌, ◌<◌, ◌≤◌, Bool, true, false, List, [], ◌∷◌, ◌++◌, length, ltb, take, drop, Option, Some, refl, sym, ap, subst, append_assoc, arith}
use Rattle.std.specs.Prelude.{Result, Ok, Err, codes}
use Rattle.std.specs.Bool.{⊤}
use Rattle.std.specs.List.{list_all, slice_split}
use Rattle.std.proofs.lemmas.Bool.{ltb-true, ltb-false}
use Rattle.std.proofs.lemmas.List.{length-append, length-take-le, take-append-drop, take-append-le, take_at}
use Rattle.closings.specs.layout.Entries.{Site}
use Rattle.closings.specs.declared.thing.Thing.{Thing}
use Rattle.closings.specs.declared.thing.Named.{Named}
use Rattle.closings.specs.declared.thing.Named.TheVariants.{One}
use Rattle.closings.specs.declared.closed.Closings.{Closings}
use Rattle.closings.specs.Things.{HasNamed, HasThing}
use Rattle.closings.specs.Closed.{with_named}
use Rattle.closings.specs.Words.{is_plain, named_by, words_of}
use Rattle.closings_file.specs.declared.fault.FileFault.{FileFault}
use Rattle.closings_file.specs.declared.fault.FileFault.TheVariants.{CutOff}
use Rattle.closings_file.specs.Texts.{ends_line, is_there, line_of, line_read, lines_of, lines_read, read_on, said_in}
use Rattle.closings_file.proofs.Bytes.{parts_of, plain_take, split_line, split_plain}

-- ---- one line

-- the words of a line, behind what says that they are closed
abbrev pub line : List ℕ → List ℕ
line words = codes "closed " ++ words

line_plain : (words : List ℕ) → list_all is_plain words ≡ true → list_all is_plain (line words) ≡ true
line_plain words e = e

line_said : (l : Site) (words : List ℕ) → said_in l (line words) ≡ is_there (named_by l words)
line_said l words = refl

-- a line before others
line_then : (l : Site) (words : List ℕ) (text : List ℕ) (behind : Closings → Result Closings FileFault) (c : Closings)
    → line_read l (line words) (slice_split ends_line text) behind c ≡ read_on (is_there (named_by l words)) behind c
line_then l words text behind c =
    let parts = parts_of text in
    ap (λ (p : List (List ℕ)). line_read l (line words) p behind c) parts.are ∙ ap (λ (said : Result Named FileFault). read_on said behind c) (line_said l words)

line_apart : (words rest : List ℕ) → (codes "closed " ++ (words ++ codes "\n")) ++ rest ≡ line words ++ 10 ∷ rest
line_apart words rest =
    append_assoc (codes "closed ") (words ++ codes "\n") rest
    ∙ ap (λ (t : List ℕ). codes "closed " ++ t) (append_assoc words (codes "\n") rest)
    ∙ sym (append_assoc (codes "closed ") words (10 ∷ rest))

-- a line of a text, and the lines behind it
read_line : (l : Site) (words rest : List ℕ) (named : Named) (c : Closings) → list_all is_plain words ≡ true → named_by l words ≡ Some named
    → lines_read l (slice_split ends_line (line words ++ 10 ∷ rest)) c ≡ lines_read l (slice_split ends_line rest) (with_named c named)
read_line l words rest named c plain names =
    ap (λ (p : List (List ℕ)). lines_read l p c) (split_line (line words) rest (line_plain words plain))
    ∙ line_then l words rest (lines_read l (slice_split ends_line rest)) c
    ∙ ap (λ (o : Option Named). read_on (is_there o) (lines_read l (slice_split ends_line rest)) c) names

-- ---- all lines

-- these things are closed one after another
abbrev pub all_closed : List Thing → Closings → Closings
all_closed [] c = c
all_closed (t ∷ things) c = all_closed things (with_named c (One t))

abbrev pub AreThere : Site → List Thing → Type 0
AreThere l [] = ⊤
AreThere l (t ∷ things) = HasThing l t × AreThere l things

-- what the words of a thing are
pub record AreRead (l : Site) : Type 0 where
  pub read : (n : Named) → HasNamed l n → named_by l (words_of l n) ≡ Some n
  pub plain : (n : Named) → HasNamed l n → list_all is_plain (words_of l n) ≡ true

-- the first line of some apart
apart : (l : Site) (t : Thing) (things : List Thing) → lines_of l (t ∷ things) ++ codes "end\n" ≡ line (words_of l (One t)) ++ 10 ∷ (lines_of l things ++ codes "end\n")
apart l t things = append_assoc (line_of l t) (lines_of l things) (codes "end\n") ∙ line_apart (words_of l (One t)) (lines_of l things ++ codes "end\n")

pub lines_again : (l : Site) → AreRead l → (things : List Thing) (c : Closings) → AreThere l things
    → lines_read l (slice_split ends_line (lines_of l things ++ codes "end\n")) c ≡ Ok (all_closed things c)
lines_again l are [] c there = refl
lines_again l are (t ∷ things) c there =
    let words = words_of l (One t) in
    ap (λ (text : List ℕ). lines_read l (slice_split ends_line text) c) (apart l t things)
    ∙ read_line l words (lines_of l things ++ codes "end\n") (One t) c (are.plain (One t) there.0) (are.read (One t) there.0)
    ∙ lines_again l are things (with_named c (One t)) there.1

-- ---- lines that were cut off

cut_line : (l : Site) (words : List ℕ) (n : ℕ) (c : Closings) → list_all is_plain words ≡ true → lines_read l (slice_split ends_line (take n (line words))) c ≡ Err CutOff
cut_line l words n c plain =
    ap (λ (p : List (List ℕ)). lines_read l p c) (split_plain (take n (line words)) (plain_take (line words) n (line_plain words plain)))

cut_last : (l : Site) (n : ℕ) (c : Closings) → n < 4 → lines_read l (slice_split ends_line (take n (codes "end\n"))) c ≡ Err CutOff
cut_last l zero c less = refl
cut_last l (suc zero) c less = refl
cut_last l (suc (suc zero)) c less = refl
cut_last l (suc (suc (suc zero))) c less = refl
cut_last l (suc (suc (suc (suc n)))) c less = absurd (omega (arith, less))

pub take_more : (text rest : List ℕ) (more count : ℕ) → more ≤ length rest → count ≡ length text + more → take count (text ++ rest) ≡ text ++ take more rest
take_more text rest more count within is =
    ap (λ (l : List ℕ). take count l) (ap (λ (r : List ℕ). text ++ r) (sym (take-append-drop more rest)) ∙ sym (append_assoc text (take more rest) (drop more rest)))
    ∙ take_at (text ++ take more rest) (drop more rest) count (omega (arith, length-append text (take more rest), length-take-le more rest within, is))

-- a line that is whole, before others that were cut off
cut_behind : (l : Site) (words rest : List ℕ) (named : Named) (n : ℕ) (c : Closings) → list_all is_plain words ≡ true → named_by l words ≡ Some named
    → length (line words) < n → n < length (line words ++ 10 ∷ rest)
    → lines_read l (slice_split ends_line (take n (line words ++ 10 ∷ rest))) c ≡ lines_read l (slice_split ends_line (take (n - (length (line words) + 1)) rest)) (with_named c named)
cut_behind l words rest named n c plain names beyond less =
    let more : ℕ = n - (length (line words) + 1) in
    let all : length (line words ++ 10 ∷ rest) ≡ length (line words) + (length rest + 1) = omega (arith, length-append (line words) (10 ∷ rest)) in
    ap (λ (t : List ℕ). lines_read l (slice_split ends_line t) c) (take_more (line words) (10 ∷ rest) (suc more) n (omega (arith, all, less, beyond)) (omega (arith, beyond)))
    ∙ read_line l words (take more rest) named c plain names

pub lines_cut : (l : Site) → AreRead l → (things : List Thing) (c : Closings) (n : ℕ) → AreThere l things → n < length (lines_of l things ++ codes "end\n")
    → lines_read l (slice_split ends_line (take n (lines_of l things ++ codes "end\n"))) c ≡ Err CutOff
lines_cut l are [] c n there less = cut_last l n c less
lines_cut l are (t ∷ things) c n there less =
    let words = words_of l (One t) in
    ap (λ (text : List ℕ). lines_read l (slice_split ends_line (take n text)) c) (apart l t things)
    ∙ by (ltb (length (line words)) n) refl (subst (λ (text : List ℕ). n < length text) (apart l t things) less) (lines_cut l are things (with_named c (One t)) (n - (length (line words) + 1)) there.1)
  where
    words : List ℕ
    words = words_of l (One t)

    rest : List ℕ
    rest = lines_of l things ++ codes "end\n"

    by : (beyond : Bool) → ltb (length (line words)) n ≡ beyond → n < length (line words ++ 10 ∷ rest)
        → (n - (length (line words) + 1) < length rest → lines_read l (slice_split ends_line (take (n - (length (line words) + 1)) rest)) (with_named c (One t)) ≡ Err CutOff)
        → lines_read l (slice_split ends_line (take n (line words ++ 10 ∷ rest))) c ≡ Err CutOff
    by true beyond within behind =
        let past : length (line words) < n = ltb-true (length (line words)) n beyond in
        let all : length (line words ++ 10 ∷ rest) ≡ length (line words) + (length rest + 1) = omega (arith, length-append (line words) (10 ∷ rest)) in
        cut_behind l words rest (One t) n c (are.plain (One t) there.0) (are.read (One t) there.0) past within ∙ behind (omega (arith, within, past, all))
    by false beyond within behind =
        let inside : n ≤ length (line words) = ltb-false (length (line words)) n beyond in
        ap (λ (text : List ℕ). lines_read l (slice_split ends_line text) c) (take-append-le n (line words) (10 ∷ rest) inside) ∙ cut_line l words n c (are.plain (One t) there.0)
