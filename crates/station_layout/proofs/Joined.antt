-- Texts that are added one after the other.
use Rattle.std.proofs.Common.{◌≡◌, ◌∙◌, ◌==◌, ℕ, suc, true, false, arith, IsUtf8, List, [], ◌∷◌, ◌++◌, append_assoc, append-nil, ap, codes, length, refl, sym, Result, Ok, Err}
use Rattle.std.proofs.Math.Utf8.{encode}
use Rattle.std.proofs.lemmas.Bool.{eqb-true, false≢true}
use Rattle.std.specs.Prelude.{OnOk, is_ok, if◌then◌else◌}
use Rattle.std.specs.List.{flat_map, join_by}
use Rattle.station_layout.specs.Names.{with_word}
use Rattle.station_layout.specs.inside.Joined.{joined, next_before}

behind_first : (between : List ℕ) (texts : List (List ℕ)) → flat_map (λ text. between ++ text) texts ≡ joined between between texts
behind_first between [] = refl
behind_first between (text ∷ texts) =
    append_assoc between text (flat_map (λ t. between ++ t) texts) ∙ ap (λ rest. between ++ (text ++ rest)) (behind_first between texts)

-- with nothing before the first
pub all_joined : (between : List ℕ) (texts : List (List ℕ)) → joined [] between texts ≡ join_by (λ text. text) between texts
all_joined between [] = refl
all_joined between (text ∷ texts) = ap (λ rest. text ++ rest) (sym (behind_first between texts))

always : (between : List ℕ) (texts : List (List ℕ)) → next_before between between texts ≡ between
always between [] = refl
always between (text ∷ texts) = refl

pub between_next : (before between text : List ℕ) (texts : List (List ℕ)) → between ≡ next_before before between (texts ++ text ∷ [])
between_next before between text [] = refl
between_next before between text (first ∷ texts) = refl

-- one more text
pub one_more : (before between : List ℕ) (texts : List (List ℕ)) (text : List ℕ)
    → joined before between (texts ++ text ∷ []) ≡ joined before between texts ++ (next_before before between texts ++ text)
one_more before between [] text = ap (λ last. before ++ last) (append-nil text)
one_more before between (first ∷ texts) text =
    let front = joined between between texts in
    ap (λ rest. before ++ (first ++ rest)) (one_more between between texts text ∙ ap (λ next. front ++ (next ++ text)) (always between texts))
    ∙ sym (append_assoc before (first ++ front) (between ++ text) ∙ ap (λ rest. before ++ rest) (append_assoc first front (between ++ text)))

-- a text is added after what stands before it, in front of those that are left
pub added : (cell before text rest : List ℕ) → (cell ++ (before ++ text)) ++ rest ≡ cell ++ (before ++ (text ++ rest))
added cell before text rest = append_assoc cell (before ++ text) rest ∙ ap (λ more. cell ++ more) (append_assoc before text rest)

-- one of the texts that are left is added
pub joined_step : (between before cell text new all : List ℕ) (left rest : List (List ℕ)) → cell ++ joined before between left ≡ all → left ≡ text ∷ rest
    → new ≡ cell ++ (before ++ text) → new ++ joined between between rest ≡ all
joined_step between before cell text new all left rest so_far is grown =
    ap (λ t. t ++ joined between between rest) grown ∙ added cell before text (joined between between rest)
    ∙ sym (ap (λ texts. cell ++ joined before between texts) is) ∙ so_far

-- what is left is the same
pub joined_on : (between before cell all : List ℕ) (left rest : List (List ℕ)) → cell ++ joined before between left ≡ all → left ≡ rest → cell ++ joined before between rest ≡ all
joined_on between before cell all left rest so_far is = sym (ap (λ texts. cell ++ joined before between texts) is) ∙ so_far

-- a name is added, and after it what is said of it
pub worded_added : (cell before name own word named coloned new : List ℕ) → named ≡ cell ++ (before ++ name) → name ≡ own → coloned ≡ named ++ codes ": " → new ≡ coloned ++ word
    → new ≡ cell ++ (before ++ with_word own word)
worded_added cell before name own word named coloned new first same second third =
    third ∙ ap (λ text. text ++ word) (second ∙ ap (λ text. text ++ codes ": ") first)
    ∙ append_assoc (cell ++ (before ++ name)) (codes ": ") word ∙ added cell before name (codes ": " ++ word)
    ∙ ap (λ n. cell ++ (before ++ with_word n word)) same

-- the same, where what is said of it begins with the colon
pub told_behind : (cell before name own told word named new : List ℕ) → named ≡ cell ++ (before ++ name) → name ≡ own → new ≡ named ++ told → told ≡ codes ": " ++ word
    → new ≡ cell ++ (before ++ with_word own word)
told_behind cell before name own told word named new first same second is =
    second ∙ ap (λ text. text ++ told) first ∙ added cell before name told ∙ ap (λ t. cell ++ (before ++ (name ++ t))) is
    ∙ ap (λ n. cell ++ (before ++ with_word n word)) same

-- texts with a colon before the first: there are none where nothing is written
pub first_joined : (first between : List ℕ) (texts : List (List ℕ)) → (texts ≡ [] → ⊥) → joined first between texts ≡ first ++ join_by (λ text. text) between texts
first_joined first between [] some = absurd (some refl)
first_joined first between (text ∷ texts) some = ap (λ rest. first ++ rest) (all_joined between (text ∷ texts))

pub none_joined : (between text : List ℕ) (texts : List (List ℕ)) → text ≡ joined (codes ": ") between texts → (length text == 0) ≡ true → texts ≡ []
none_joined between text [] is none = refl
none_joined between text (one ∷ texts) is none =
    let some : suc (suc (length (one ++ joined between between texts))) ≡ 0 = sym (ap (λ t. length t) is) ∙ eqb-true (length text) 0 none in
    absurd (omega (arith, some))

pub some_joined : (between text : List ℕ) (texts : List (List ℕ)) → text ≡ joined (codes ": ") between texts → (length text == 0) ≡ false → texts ≡ [] → ⊥
some_joined between text [] is some none = false≢true (sym some ∙ ap (λ t. length t == 0) is)
some_joined between text (one ∷ texts) is some none = cc none

-- what is known of what comes where a result is Ok
pub on_ok : {T E : Type 0} {P Q : Type 0} (result : Result T E) → (P → Q) → OnOk result P → OnOk result Q
on_ok (Ok value) more holds = more holds
on_ok (Err error) more holds = holds

pub if_ok : {T E : Type 0} {P : Type 0} (result : Result T E) (new more same : List ℕ) → new ≡ (if is_ok result then more else same) → (new ≡ more → P) → OnOk result P
if_ok (Ok value) new more same is holds = holds is
if_ok (Err error) new more same is holds = tt

-- ---- what stands between texts is text

pub nothing_valid : IsUtf8 []
nothing_valid = ([], (refl, refl))

pub space_valid : IsUtf8 (codes " ")
unfolding encode
space_valid = (codes " ", (refl, refl))

pub colon_valid : IsUtf8 (codes ": ")
unfolding encode
colon_valid = (codes ": ", (refl, refl))

pub semicolon_valid : IsUtf8 (codes "; ")
unfolding encode
semicolon_valid = (codes "; ", (refl, refl))
