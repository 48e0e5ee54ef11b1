-- What is written is read, what was cut off is told to be so, and so is a text of another layout.
use Rattle.std.proofs.Common.{◌≡◌, ◌≢◌, ◌⊎◌, ◌↔◌, ◌∙◌, ℕ, ◌+◌, ◌-◌, ◌<◌, ◌≤◌, ◌&&◌, Bool, true, false, List, [], ◌∷◌, ◌++◌, length, ltb, take, drop, Some, None, refl, sym, ap, subst, inl, inr, ⊎_elim, append_assoc, arith}
use Rattle.std.specs.Prelude.{Contains, Result, Ok, Err, codes}
use Rattle.std.specs.List.{slice_split}
use Rattle.std.proofs.lemmas.Bool.{cond-true, cond-false, le-ltb, lt-ltb, ltb-true, ltb-false}
use Rattle.std.proofs.lemmas.List.{length-append, length-take-le, take-append-drop, take-append-le, take_at, drop_at}
use Rattle.std.proofs.lemmas.List.Elements.{Contains-append_cases, Contains-append_left, Contains-append_right, Contains-push, Contains-push_cases}
use Rattle.std.proofs.lemmas.Slice.Eq.{bytes_eq-Decides}
use Rattle.closings.specs.layout.Entries.{Site}
use Rattle.closings.specs.declared.thing.Thing.{Thing}
use Rattle.closings.specs.declared.thing.Named.{Named}
use Rattle.closings.specs.declared.thing.Named.TheVariants.{One}
use Rattle.closings.specs.declared.auxiliary.AuxiliaryCounts.{AuxiliaryCounts}
use Rattle.closings.specs.declared.closed.Closings.{Closings}
use Rattle.closings.specs.Things.{HasThing, Names}
use Rattle.closings.specs.Auxiliaries.{AreNumbers}
use Rattle.closings.specs.Closed.{IsClosed, closed_things, nothing, with_named}
use Rattle.closings_file.specs.declared.fault.FileFault.{FileFault}
use Rattle.closings_file.specs.declared.fault.FileFault.TheVariants.{CutOff, OtherLayout, Damaged}
use Rattle.closings_file.specs.declared.found.Said.{Said}
use Rattle.closings_file.specs.Files.{found_in, found_of}
use Rattle.closings_file.specs.Texts.{all_read, begin_with, ends_line, heading, is_cut_off, lines_closed, lines_counted, lines_read, number_line, opens_read, reading, said_with, writing}
use Rattle.closings_file.proofs.Begins.{begins_not, begins_so, begins_then}
use Rattle.closings_file.proofs.Lines.{AreRead, AreThere, all_closed, lines_again, lines_cut, take_more}
use Rattle.closings_file.proofs.Numbers.{AreReadAgain, IsLabel, number_again, number_cut}

-- ---- what begins otherwise

shorter_begins_not : (text bytes : List ℕ) → length bytes < length text → begin_with text bytes ≡ false
shorter_begins_not text bytes less =
    begins_not text bytes (λ is. let all : length bytes ≡ length text + length (drop (length text) bytes) = ap length (begins_then text bytes is) ∙ length-append text (drop (length text) bytes) in omega (arith, all, less))

cut_so : (text : List ℕ) (count : ℕ) → count < length text → is_cut_off text (take count text) ≡ true
cut_so text count less =
    let long : length (take count text) ≡ count = length-take-le count text (omega (arith, less)) in
    ap (λ v. v && begin_with (take count text) text) (lt-ltb (length (take count text)) (length text) (omega (arith, long, less)))
    ∙ ap (begin_with (take count text)) (sym (take-append-drop count text))
    ∙ begins_so (take count text) (drop count text)

-- ---- what is written

reads_behind : (l : Site) (head rest : List ℕ) → reading l head (head ++ rest) ≡ all_read l (slice_split ends_line rest)
reads_behind l head rest =
    cond-true (begin_with head (head ++ rest)) _ _ (begins_so head rest)
    ∙ ap (λ (text : List ℕ). all_read l (slice_split ends_line text)) (drop_at head rest (length head) refl)

-- what laws of closings say of a layout
pub record Knows (l : Site) : Type 0 where
  pub numbers : AreReadAgain
  pub words : AreRead l
  pub listed : (c : Closings) (t : Thing) → Contains (closed_things l c) t ↔ (HasThing l t × IsClosed c t)
  pub closed : (c : Closings) (n : Named) (t : Thing) → IsClosed (with_named c n) t ↔ (Names n t ⊎ IsClosed c t)
  pub none : (t : Thing) → IsClosed nothing t → ⊥

all_there : (l : Site) (things : List Thing) → ((t : Thing) → Contains things t → HasThing l t) → AreThere l things
all_there l [] has = tt
all_there l (t ∷ things) has =
    (has t (Contains-append_left (t ∷ []) things t (Contains-push [] t)), all_there l things (λ u at. has u (Contains-append_right (t ∷ []) things u at)))

listed_there : (l : Site) → Knows l → (c : Closings) → AreThere l (closed_things l c)
listed_there l knows c = all_there l (closed_things l c) (λ t at. ((knows.listed c t).0 at).0)

-- ---- the numbers

releases_label : IsLabel (codes "counted release ")
releases_label = record { plain = λ word e. e }

opens_label : IsLabel (codes "counted open ")
opens_label = record { plain = λ word e. e }

all_again : (l : Site) (counts : AuxiliaryCounts) → AreReadAgain → AreNumbers counts → (rest : List ℕ)
    → all_read l (slice_split ends_line (lines_counted counts ++ rest)) ≡ said_with counts (lines_read l (slice_split ends_line rest) nothing)
all_again l counts again are rest =
    let opens = number_line (codes "counted open ") counts.opens in
    ap (λ (text : List ℕ). all_read l (slice_split ends_line text)) (append_assoc (number_line (codes "counted release ") counts.releases) opens rest)
    ∙ number_again (codes "counted release ") releases_label again counts.releases are.releases (opens_read l) (opens ++ rest)
    ∙ number_again (codes "counted open ") opens_label again counts.opens are.opens
    (λ number last. said_with (record { releases = counts.releases; opens = number }) (lines_read l last nothing)) rest

all_cut : (l : Site) (counts : AuxiliaryCounts) → AreReadAgain → AreNumbers counts → (rest : List ℕ) (count : ℕ) → count < length (lines_counted counts ++ rest)
    → ((fewer : ℕ) → fewer < length rest → lines_read l (slice_split ends_line (take fewer rest)) nothing ≡ Err CutOff)
    → all_read l (slice_split ends_line (take count (lines_counted counts ++ rest))) ≡ Err CutOff
all_cut l counts again are rest count less cut =
    let releases = number_line (codes "counted release ") counts.releases in
    let opens = number_line (codes "counted open ") counts.opens in
    let apart : lines_counted counts ++ rest ≡ releases ++ (opens ++ rest) = append_assoc releases opens rest in
    ap (λ (text : List ℕ). all_read l (slice_split ends_line (take count text))) apart
    ∙ number_cut (codes "counted release ") releases_label again counts.releases are.releases (opens_read l) (opens ++ rest) count (subst (λ (text : List ℕ). count < length text) apart less)
    (λ fewer within. number_cut (codes "counted open ") opens_label again counts.opens are.opens
    (λ number last. said_with (record { releases = counts.releases; opens = number }) (lines_read l last nothing)) rest fewer within
    (λ least fits. ap (said_with (record { releases = counts.releases; opens = counts.opens })) (cut least fits)))

-- ---- the whole text

pub read_again : (l : Site) → Knows l → (head : List ℕ) (counts : AuxiliaryCounts) (c : Closings) → AreNumbers counts
    → reading l head (writing l head counts c) ≡ Ok (record { counts = counts; closings = all_closed (closed_things l c) nothing })
read_again l knows head counts c are =
    reads_behind l head (lines_counted counts ++ lines_closed l c)
    ∙ all_again l counts knows.numbers are (lines_closed l c)
    ∙ ap (said_with counts) (lines_again l knows.words (closed_things l c) nothing (listed_there l knows c))

-- none of nothing
none_of : (t : Thing) → Contains {X = Thing} [] t → ⊥
none_of t at = omega (arith, at.1)

one_of : (t u : Thing) → Contains (t ∷ []) u → t ≡ u
one_of t u at = ⊎_elim (λ none. absurd (none_of u none)) (λ same. same) (Contains-push_cases [] t u at)

closed-all : (l : Site) → Knows l → (things : List Thing) (c : Closings) (t : Thing) → IsClosed (all_closed things c) t → Contains things t ⊎ IsClosed c t
closed-all l knows [] c t is = inr is
closed-all l knows (u ∷ things) c t is =
    ⊎_elim (λ at. inl (Contains-append_right (u ∷ []) things t at))
    (λ before. ⊎_elim (λ names. inl (Contains-append_left (u ∷ []) things t (subst (λ (v : Thing). Contains (u ∷ []) v) (sym names) (Contains-push [] u)))) (λ old. inr old) ((knows.closed c (One u) t).0 before))
    (closed-all l knows things (with_named c (One u)) t is)

all-closed : (l : Site) → Knows l → (things : List Thing) (c : Closings) (t : Thing) → Contains things t ⊎ IsClosed c t → IsClosed (all_closed things c) t
all-closed l knows [] c t is = ⊎_elim (λ at. absurd (none_of t at)) (λ old. old) is
all-closed l knows (u ∷ things) c t is =
    all-closed l knows things (with_named c (One u)) t
    (⊎_elim
    (λ at. ⊎_elim (λ first. inr ((knows.closed c (One u) t).1 (inl (sym (one_of u t first))))) (λ later. inl later) (Contains-append_cases (u ∷ []) things t at))
    (λ old. inr ((knows.closed c (One u) t).1 (inr old))) is)

pub found_again : (l : Site) → Knows l → (head : List ℕ) (counts : AuxiliaryCounts) (c : Closings) → AreNumbers counts
    → found_in l head (Some (writing l head counts c)) ≡ record { closings = all_closed (closed_things l c) nothing; counts = counts; fault = None }
found_again l knows head counts c are = ap (found_of l) (read_again l knows head counts c are)

pub found_things : (l : Site) → Knows l → (head : List ℕ) (counts : AuxiliaryCounts) (c : Closings) (t : Thing) → AreNumbers counts
    → IsClosed (found_in l head (Some (writing l head counts c))).closings t ↔ (HasThing l t × IsClosed c t)
found_things l knows head counts c t are =
    let same = ap (λ found. found.closings) (found_again l knows head counts c are) in (
      λ is. (knows.listed c t).0
          (⊎_elim (λ at. at) (λ old. absurd (knows.none t old)) (closed-all l knows (closed_things l c) nothing t (subst (λ (d : Closings). IsClosed d t) same is))),
      λ is. subst (λ (d : Closings). IsClosed d t) (sym same) (all-closed l knows (closed_things l c) nothing t (inl ((knows.listed c t).1 is))),
    )

-- ---- what was cut off

pub read_cut : (l : Site) → Knows l → (head : List ℕ) (counts : AuxiliaryCounts) (c : Closings) (count : ℕ) → AreNumbers counts → count < length (writing l head counts c)
    → reading l head (take count (writing l head counts c)) ≡ Err CutOff
read_cut l knows head counts c count are less = by (ltb count (length head)) refl
  where
    rest : List ℕ
    rest = lines_counted counts ++ lines_closed l c

    by : (before : Bool) → ltb count (length head) ≡ before → reading l head (take count (head ++ rest)) ≡ Err CutOff
    by true is =
        let inside : count < length head = ltb-true count (length head) is in
        ap (reading l head) (take-append-le count head rest (omega (arith, inside)))
        ∙ cond-false (begin_with head (take count head)) _ _ (shorter_begins_not head (take count head) (omega (arith, length-take-le count head (omega (arith, inside)), inside)))
        ∙ ap (λ (f : FileFault). Err f) (cond-true (is_cut_off head (take count head)) _ _ (cut_so head count inside))
    by false is =
        let beyond : length head ≤ count = ltb-false count (length head) is in
        let fits : count - length head < length rest = omega (arith, length-append head rest, less, beyond) in
        ap (reading l head) (take_more head rest (count - length head) count (omega (arith, fits)) (omega (arith, beyond)))
        ∙ reads_behind l head (take (count - length head) rest)
        ∙ all_cut l counts knows.numbers are (lines_closed l c) (count - length head) fits
        (λ fewer within. lines_cut l knows.words (closed_things l c) nothing fewer (listed_there l knows c) within)

-- ---- other layouts

-- two texts of one length that begin one text
same_beginning : (a b rest more : List ℕ) → length a ≡ length b → a ++ rest ≡ b ++ more → a ≡ b
same_beginning a b rest more long same =
    sym (take_at a rest (length a) refl) ∙ ap (λ (t : List ℕ). take (length a) t) same ∙ take_at b more (length a) (sym long)

same_digest : (digest other : List ℕ) → length digest ≡ length other → heading digest ≡ heading other → digest ≡ other
same_digest digest other long same = same_beginning digest other (codes "\n") (codes "\n") long (ap (λ (t : List ℕ). drop 7 t) same)

heading_long : (digest : List ℕ) → length (heading digest) ≡ 7 + (length digest + 1)
heading_long digest = omega (arith, length-append (codes "layout ") (digest ++ codes "\n"), length-append digest (codes "\n"))

pub read_other : (l far : Site) (digest other : List ℕ) (counts : AuxiliaryCounts) (c : Closings) → length digest ≡ length other → digest ≢ other
    → reading l (heading digest) (writing far (heading other) counts c) ≡ Err OtherLayout
read_other l far digest other counts c long apart =
    let rest = lines_counted counts ++ lines_closed far c in
    let bytes = heading other ++ rest in
    let heads : length (heading digest) ≡ length (heading other) = omega (arith, heading_long digest, heading_long other, long) in
    cond-false (begin_with (heading digest) bytes) _ _
    (begins_not (heading digest) bytes
    (λ is. apart (same_digest digest other long (same_beginning (heading digest) (heading other) (drop (length (heading digest)) bytes) rest heads (sym (begins_then (heading digest) bytes is))))))
    ∙ ap (λ (f : FileFault). Err f)
    (cond-false (is_cut_off (heading digest) bytes) _ _
    (ap (λ v. v && begin_with bytes (heading digest)) (le-ltb (length bytes) (length (heading digest)) (omega (arith, length-append (heading other) rest, heads))))
    ∙ cond-true (begin_with (codes "layout ") bytes) OtherLayout Damaged
    (ap (begin_with (codes "layout ")) (append_assoc (codes "layout ") (other ++ codes "\n") rest) ∙ begins_so (codes "layout ") ((other ++ codes "\n") ++ rest)))
