-- What is written is read, and what was cut off is told to be so.
use Rattle.std.proofs.Common.{◌≡◌, ℕ, zero, suc, ◌+◌, ◌-◌, ◌<◌, ◌≤◌, Bool, true, false, cond, List, [], ◌∷◌, ◌++◌, length, ltb, take, drop, refl, sym, ap, ◌∙◌, append_assoc, arith}
use Rattle.std.specs.Prelude.{Result, Ok, Err, ◌&&◌}
use Rattle.std.specs.Str.{bytes_eq}
use Rattle.std.proofs.lemmas.Bool.{cond-true, cond-false, le-ltb, lt-ltb, ltb-true, ltb-false}
use Rattle.std.proofs.lemmas.List.{length-append, length-take-le, take-append-drop, take-append-le, take_at, drop_at}
use Rattle.std.proofs.lemmas.Slice.Eq.{bytes_eq-Decides}
use Rattle.line_laws.specs.declared.words.Side.{Side}
use Rattle.line_laws.specs.declared.words.Position.{Position}
use Rattle.line_laws.specs.declared.words.Position.TheVariants.{Left, Right}
use Rattle.line_laws.specs.End.{File}
use Rattle.line_file.specs.declared.fault.FileFault.{FileFault}
use Rattle.line_file.specs.declared.fault.FileFault.TheVariants.{Missing, CutOff, OtherLine, OtherEnd, Damaged, Unreadable}
use Rattle.line_file.specs.EndFiles.{owner_text, kept_text, writing, begin_with, is_cut_off, kept_then, kept_in, four, fault_of, reading}

-- ---- beginnings

pub begins_so : (text rest : List ℕ) → begin_with text (text ++ rest) ≡ true
begins_so text rest =
    cond-false (ltb (length (text ++ rest)) (length text)) _ _ (le-ltb (length (text ++ rest)) (length text) (omega (arith, length-append text rest)))
    ∙ (bytes_eq-Decides (take (length text) (text ++ rest)) text).1 (take_at text rest (length text) refl)

pub begins_then : (text bytes : List ℕ) → begin_with text bytes ≡ true → bytes ≡ text ++ drop (length text) bytes
begins_then text bytes is = by_length (ltb (length bytes) (length text)) is
  where
    by_length : (short : Bool) → cond short false (bytes_eq (take (length text) bytes) text) ≡ true → bytes ≡ text ++ drop (length text) bytes
    by_length true is = absurd (cc (is))
    by_length false is =
        sym (take-append-drop (length text) bytes) ∙ ap (λ (t : List ℕ). t ++ drop (length text) bytes) ((bytes_eq-Decides (take (length text) bytes) text).0 is)

-- a text that was cut off somewhere
pub cut_so : (text : List ℕ) (count : ℕ) → count < length text → is_cut_off text (take count text) ≡ true
cut_so text count less =
    let long : length (take count text) ≡ count = length-take-le count text (omega (arith, less)) in
    cond-true (ltb (length (take count text)) (length text)) _ _ (lt-ltb (length (take count text)) (length text) (omega (arith, long, less)))
    ∙ (cond-false (ltb (length text) (length (take count text))) _ _ (le-ltb (length text) (length (take count text)) (omega (arith, long, less)))
    ∙ (bytes_eq-Decides (take (length (take count text)) text) (take count text)).1 (ap (λ (n : ℕ). take n text) long))

pub cut_then : (text bytes : List ℕ) → is_cut_off text bytes ≡ true → text ≡ bytes ++ drop (length bytes) text
cut_then text bytes is = by_length (ltb (length bytes) (length text)) is
  where
    by_length : (short : Bool) → cond short (begin_with bytes text) false ≡ true → text ≡ bytes ++ drop (length bytes) text
    by_length true is = begins_then bytes text is
    by_length false is = absurd (cc (is))

shorter_begins_not : (text bytes : List ℕ) → length bytes < length text → begin_with text bytes ≡ false
shorter_begins_not text bytes less = cond-true (ltb (length bytes) (length text)) _ _ (lt-ltb (length bytes) (length text) less)

take_more : (text rest : List ℕ) (more count : ℕ) → more ≤ length rest → count ≡ length text + more → take count (text ++ rest) ≡ text ++ take more rest
take_more text rest more count within is =
    ap (λ (l : List ℕ). take count l) (ap (λ (r : List ℕ). text ++ r) (sym (take-append-drop more rest)) ∙ sym (append_assoc text (take more rest) (drop more rest)))
    ∙ take_at (text ++ take more rest) (drop more rest) count (omega (arith, length-append text (take more rest), length-take-le more rest within, is))

-- ---- what the end keeps

kept_read : (file : File) → kept_in four (kept_text file) ≡ Ok file
kept_read file = by_values file.token file.lock
  where
    by_values : (token : Bool) (lock : Position) → kept_in four (kept_text (record { token = token; lock = lock })) ≡ Ok (record { token = token; lock = lock })
    by_values true Left = refl
    by_values true Right = refl
    by_values false Left = refl
    by_values false Right = refl

kept_found : (files : List File) (rest : List ℕ) (file : File) → kept_in files rest ≡ Ok file → kept_text file ≡ rest
kept_found [] rest file is = absurd (cc (is))
kept_found (first ∷ files) rest file is = by_text (kept_found files rest file) (bytes_eq (kept_text first) rest) (is_cut_off (kept_text first) rest) refl is
  where
    by_text : (kept_in files rest ≡ Ok file → kept_text file ≡ rest) → (same cut : Bool) → bytes_eq (kept_text first) rest ≡ same
        → kept_then first (cond same (Ok true) (cond cut (Err CutOff) (Ok false))) (kept_in files rest) ≡ Ok file → kept_text file ≡ rest
    by_text later true cut same is =
        let first_is : first ≡ file = cc (is) in ap kept_text (sym first_is) ∙ (bytes_eq-Decides (kept_text first) rest).0 same
    by_text later false true same is = absurd (cc (is))
    by_text later false false same is = later is

-- all numbers below one pass a test
abbrev all_below : ℕ → (ℕ → Bool) → Bool
all_below zero test = true
all_below (suc n) test = test n && all_below n test

is_true_both : (a b : Bool) → (a && b) ≡ true → (a ≡ true) × (b ≡ true)
is_true_both true b is = (refl, is)
is_true_both false b is = absurd (cc (is))

below_passes : (n : ℕ) (test : ℕ → Bool) → all_below n test ≡ true → (i : ℕ) → i < n → test i ≡ true
below_passes zero test all i less = absurd (omega (arith, less))
below_passes (suc n) test all i less =
    let both = is_true_both (test n) (all_below n test) all in by_last both.0 (below_passes n test both.1 i) (ltb i n) refl
  where
    by_last : test n ≡ true → (i < n → test i ≡ true) → (before : Bool) → ltb i n ≡ before → test i ≡ true
    by_last last earlier true is = earlier (ltb-true i n is)
    by_last last earlier false is =
        let same : i ≡ n = omega (arith, ltb-false i n is, less) in ap test same ∙ last

abbrev is_cut_fault : FileFault → Bool
is_cut_fault Missing = false
is_cut_fault CutOff = true
is_cut_fault OtherLine = false
is_cut_fault OtherEnd = false
is_cut_fault Damaged = false
is_cut_fault Unreadable = false

abbrev is_cut : Result File FileFault → Bool
is_cut (Ok file) = false
is_cut (Err fault) = is_cut_fault fault

cut_fault_is : (fault : FileFault) → is_cut_fault fault ≡ true → fault ≡ CutOff
cut_fault_is Missing is = absurd (cc (is))
cut_fault_is CutOff is = refl
cut_fault_is OtherLine is = absurd (cc (is))
cut_fault_is OtherEnd is = absurd (cc (is))
cut_fault_is Damaged is = absurd (cc (is))
cut_fault_is Unreadable is = absurd (cc (is))

cut_is : (result : Result File FileFault) → is_cut result ≡ true → result ≡ Err CutOff
cut_is (Ok file) is = absurd (cc (is))
cut_is (Err fault) is = ap (λ (f : FileFault). Err f) (cut_fault_is fault is)

all_cut : (token : Bool) (lock : Position) → let text = kept_text (record { token = token; lock = lock })
    in all_below (length text) (λ i. is_cut (kept_in four (take i text))) ≡ true
all_cut true Left = refl
all_cut true Right = refl
all_cut false Left = refl
all_cut false Right = refl

kept_cut : (file : File) (count : ℕ) → count < length (kept_text file) → kept_in four (take count (kept_text file)) ≡ Err CutOff
kept_cut file count less =
    cut_is (kept_in four (take count (kept_text file)))
    (below_passes (length (kept_text file)) (λ i. is_cut (kept_in four (take i (kept_text file)))) (all_cut file.token file.lock) count less)

-- ---- the whole text

begun_reads : (name : List ℕ) (side : Side) (rest : List ℕ) → reading name side (owner_text name side ++ rest) ≡ kept_in four rest
begun_reads name side rest =
    cond-true (begin_with (owner_text name side) (owner_text name side ++ rest)) _ _ (begins_so (owner_text name side) rest)
    ∙ ap (kept_in four) (drop_at (owner_text name side) rest (length (owner_text name side)) refl)

pub read_again : (name : List ℕ) (side : Side) (kept : File) → reading name side (writing name side kept) ≡ Ok kept
read_again name side kept = begun_reads name side (kept_text kept) ∙ kept_read kept

pub read_only : (name : List ℕ) (side : Side) (kept : File) (bytes : List ℕ) → bytes ≡ writing name side kept → reading name side bytes ≡ Ok kept
read_only name side kept bytes is = ap (reading name side) is ∙ read_again name side kept

pub read_found : (name : List ℕ) (side : Side) (bytes : List ℕ) (kept : File) → reading name side bytes ≡ Ok kept → bytes ≡ writing name side kept
read_found name side bytes kept is = by_owner (begin_with (owner_text name side) bytes) refl is
  where
    by_owner : (begins : Bool) → begin_with (owner_text name side) bytes ≡ begins
        → cond begins (kept_in four (drop (length (owner_text name side)) bytes)) (Err (fault_of name side bytes)) ≡ Ok kept → bytes ≡ writing name side kept
    by_owner true begins is =
        begins_then (owner_text name side) bytes begins
        ∙ ap (λ (rest : List ℕ). owner_text name side ++ rest) (sym (kept_found four (drop (length (owner_text name side)) bytes) kept is))
    by_owner false begins is = absurd (cc (is))

cut_in_owner : (name : List ℕ) (side : Side) (count : ℕ) → count < length (owner_text name side)
    → reading name side (take count (owner_text name side)) ≡ Err CutOff
cut_in_owner name side count less =
    let owner = owner_text name side in
    cond-false (begin_with owner (take count owner)) _ _
    (shorter_begins_not owner (take count owner) (omega (arith, length-take-le count owner (omega (arith, less)), less)))
    ∙ ap (λ (f : FileFault). Err f) (cond-true (is_cut_off owner (take count owner)) _ _ (cut_so owner count less))

pub read_cut : (name : List ℕ) (side : Side) (kept : File) (count : ℕ) → count < length (writing name side kept)
    → reading name side (take count (writing name side kept)) ≡ Err CutOff
read_cut name side kept count less = by_place (ltb count (length (owner_text name side))) refl
  where
    by_place : (before : Bool) → ltb count (length (owner_text name side)) ≡ before → reading name side (take count (writing name side kept)) ≡ Err CutOff
    by_place true is =
        let inside : count < length (owner_text name side) = ltb-true count (length (owner_text name side)) is in
        ap (reading name side) (take-append-le count (owner_text name side) (kept_text kept) (omega (arith, inside))) ∙ cut_in_owner name side count inside
    by_place false is =
        let owner = owner_text name side in
        let beyond : length owner ≤ count = ltb-false count (length owner) is in
        let fits : count - length owner < length (kept_text kept) = omega (arith, length-append owner (kept_text kept), less, beyond) in
        ap (reading name side) (take_more owner (kept_text kept) (count - length owner) count (omega (arith, fits)) (omega (arith, beyond)))
        ∙ (begun_reads name side (take (count - length owner) (kept_text kept)) ∙ kept_cut kept (count - length owner) fits)
