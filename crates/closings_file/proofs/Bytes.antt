-- Parts of a text at its line feeds, and texts of plain bytes.
use Rattle.std.proofs.Common.{◌≡◌, ◌∙◌, ℕ, zero, suc, ◌+◌, ◌<◌, ◌&&◌, not, Bool, true, false, cond, List, [], ◌∷◌, ◌++◌, length, take, drop, Some, None, refl, ap, eqb-true, arith}
use Rattle.std.specs.Prelude.{Err, nat_lt}
use Rattle.std.specs.List.{list_all, onto_first, position, position_or_len, slice_split}
use Rattle.std.specs.Str.{IsAscii, IsUtf8}
use Rattle.std.proofs.lemmas.Str.{IsUtf8-from_ascii}
use Rattle.std.proofs.lemmas.Bool.{ltb-false, ltb-true}
use Rattle.std.proofs.lemmas.Bool.Decides.{nat_tests}
use Rattle.std.proofs.lemmas.List.Splits.{slice_split_first}
use Rattle.std.proofs.lemmas.List.Sums.{prefix_len-le-length}
use Rattle.closings.specs.Words.{is_plain}
use Rattle.closings.specs.declared.closed.Closings.{Closings}
use Rattle.closings_file.specs.declared.fault.FileFault.TheVariants.{Damaged}
use Rattle.closings_file.specs.Texts.{ended, ends_line}

both : (a b : Bool) → (a && b) ≡ true → (a ≡ true) × (b ≡ true)
both true b e = (refl, e)
both false b e = absurd (cc (e))

-- ---- plain bytes

-- a plain byte ends no line
pub no_feed : (b : ℕ) → is_plain b ≡ true → ends_line b ≡ false
no_feed b e = by (ends_line b) refl
  where
    by : (v : Bool) → ends_line b ≡ v → v ≡ false
    by true h =
        let same : is_plain b ≡ is_plain 10 = ap is_plain (eqb-true b 10 h) in
        cc
    by false h = refl

plain_ascii : (b : ℕ) → is_plain b ≡ true → b < 128
plain_ascii b e = grind (arith, nat_tests)

pub all_ascii : (word : List ℕ) → list_all is_plain word ≡ true → IsAscii word
all_ascii [] e i = grind arith
all_ascii (b ∷ word) e zero = plain_ascii b (both (is_plain b) (list_all is_plain word) e).0
all_ascii (b ∷ word) e (suc i) = all_ascii word (both (is_plain b) (list_all is_plain word) e).1 i

pub plain_text : (word : List ℕ) → list_all is_plain word ≡ true → IsUtf8 word
plain_text word e = IsUtf8-from_ascii word (all_ascii word e)

pub plain_take : (word : List ℕ) (n : ℕ) → list_all is_plain word ≡ true → list_all is_plain (take n word) ≡ true
plain_take [] zero e = refl
plain_take [] (suc n) e = refl
plain_take (b ∷ word) zero e = refl
plain_take (b ∷ word) (suc n) e =
    let parts = both (is_plain b) (list_all is_plain word) e in
    ap (λ v. v && list_all is_plain (take n word)) parts.0 ∙ plain_take word n parts.1

-- ---- parts at line feeds

-- a plain line is parted from what stands behind its line feed
pub split_line : (line rest : List ℕ) → list_all is_plain line ≡ true → slice_split ends_line (line ++ 10 ∷ rest) ≡ line ∷ slice_split ends_line rest
split_line [] rest e = refl
split_line (b ∷ line) rest e =
    let parts = both (is_plain b) (list_all is_plain line) e in
    ap (λ v. cond v ([] ∷ slice_split ends_line (line ++ 10 ∷ rest)) (onto_first b (slice_split ends_line (line ++ 10 ∷ rest)))) (no_feed b parts.0)
    ∙ ap (onto_first b) (split_line line rest parts.1)

-- a plain text has one part
pub split_plain : (line : List ℕ) → list_all is_plain line ≡ true → slice_split ends_line line ≡ line ∷ []
split_plain [] e = refl
split_plain (b ∷ line) e =
    let parts = both (is_plain b) (list_all is_plain line) e in
    ap (λ v. cond v ([] ∷ slice_split ends_line line) (onto_first b (slice_split ends_line line))) (no_feed b parts.0)
    ∙ ap (onto_first b) (split_plain line parts.1)

-- there is a first part
pub record Parts (text : List ℕ) : Type 0 where
  pub first : List ℕ
  pub others : List (List ℕ)
  pub are : slice_split ends_line text ≡ first ∷ others

pub parts_of : (text : List ℕ) → Parts text
parts_of [] = record { first = []; others = []; are = refl }
parts_of (b ∷ text) = by (ends_line b) refl (parts_of text)
  where
    by : (v : Bool) → ends_line b ≡ v → Parts text → Parts (b ∷ text)
    by true e parts = record { first = []; others = slice_split ends_line text; are = ap (λ v. cond v ([] ∷ slice_split ends_line text) (onto_first b (slice_split ends_line text))) e }
    by false e parts = record {
      first = b ∷ parts.first;
      others = parts.others;
      are = ap (λ v. cond v ([] ∷ slice_split ends_line text) (onto_first b (slice_split ends_line text))) e ∙ ap (onto_first b) parts.are;
    }

-- ---- as the code finds them

split_none : (p : ℕ → Bool) (bs : List ℕ) → position_or_len p bs ≡ length bs → slice_split p bs ≡ bs ∷ []
split_none p [] h = refl
split_none p (b ∷ bs) h = one_more (p b) h (split_none p bs)
  where
    one_more : (v : Bool) → cond (not v) (1 + position_or_len p bs) 0 ≡ length (b ∷ bs)
        → (position_or_len p bs ≡ length bs → slice_split p bs ≡ bs ∷ [])
        → cond v ([] ∷ slice_split p bs) (onto_first b (slice_split p bs)) ≡ (b ∷ bs) ∷ []
    one_more true h more = absurd (omega (arith, h))
    one_more false h more = ap (onto_first b) (more (omega (arith, h)))

-- no line ends
pub no_line : (text : List ℕ) → position ends_line text ≡ None → slice_split ends_line text ≡ text ∷ []
no_line text none = by (nat_lt (position_or_len ends_line text) (length text)) refl none
  where
    by : (v : Bool) → nat_lt (position_or_len ends_line text) (length text) ≡ v → cond v (Some (position_or_len ends_line text)) None ≡ None → slice_split ends_line text ≡ text ∷ []
    by true e none = absurd (cc (none))
    by false e none =
        let at : position_or_len ends_line text ≡ length text = omega (arith, ltb-false (position_or_len ends_line text) (length text) e, prefix_len-le-length (λ b. not (ends_line b)) text) in
        split_none ends_line text at

-- the first line ends here
pub first_line : (text : List ℕ) (end : ℕ) → position ends_line text ≡ Some end → slice_split ends_line text ≡ take end text ∷ slice_split ends_line (drop (end + 1) text)
first_line text end some = by (nat_lt (position_or_len ends_line text) (length text)) refl some
  where
    by : (v : Bool) → nat_lt (position_or_len ends_line text) (length text) ≡ v → cond v (Some (position_or_len ends_line text)) None ≡ Some end
        → slice_split ends_line text ≡ take end text ∷ slice_split ends_line (drop (end + 1) text)
    by true e some =
        let at : position_or_len ends_line text ≡ end = cc (some) in
        slice_split_first ends_line text 0 (ltb-true (position_or_len ends_line text) (length text) e)
        ∙ ap (λ (n : ℕ). take n text ∷ slice_split ends_line (drop (n + 1) text)) at
    by false e some = absurd (cc (some))

-- something stands behind the last line
pub some_behind : (c : Closings) (text : List ℕ) → 0 < length text → ended c (slice_split ends_line text) ≡ Err Damaged
some_behind c [] some = absurd (omega (arith, some))
some_behind c (b ∷ text) some = by (ends_line b) (parts_of text)
  where
    by : (v : Bool) → Parts text → ended c (cond v ([] ∷ slice_split ends_line text) (onto_first b (slice_split ends_line text))) ≡ Err Damaged
    by true parts = ap (λ (p : List (List ℕ)). ended c ([] ∷ p)) parts.are
    by false parts = ap (λ (p : List (List ℕ)). ended c (onto_first b p)) parts.are
