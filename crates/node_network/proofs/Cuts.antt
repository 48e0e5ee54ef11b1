-- Lines that are cut from bytes.
use Rattle.std.proofs.Common.{◌≡◌, ◌==◌, ℕ, Bool, true, false, cond, List, [], ◌∷◌, ◌++◌, Option, Some, None, is_some, option_map, refl, sym, ap, ◌∙◌}
use Rattle.node_network.specs.Lines.{Waiting, cut, handed_on, left, line_feed, lines, with_byte}

none_some : {A : Type 0} {x : A} → Some x ≡ None → ⊥
none_some e = cc

true_false : true ≡ false → ⊥
true_false e = cc

abbrev whole : List ℕ → List ℕ → Option (List ℕ) × Waiting
whole begun behind = (Some begun, record { begun = []; behind = behind })

-- ---- where a piece has no whole line, the next is cut after it

cut_byte : (feed : Bool) (begun next first second : List ℕ) → (cond feed (whole begun first) (cut next first)).0 ≡ None
    → ((cut next first).0 ≡ None → cut next (first ++ second) ≡ cut (cut next first).1.begun second)
    → cond feed (whole begun (first ++ second)) (cut next (first ++ second)) ≡ cut (cond feed (whole begun first) (cut next first)).1.begun second
cut_byte true begun next first second none on = absurd (none_some none)
cut_byte false begun next first second none on = on none

pub cut_on : (begun first second : List ℕ) → (cut begun first).0 ≡ None → cut begun (first ++ second) ≡ cut (cut begun first).1.begun second
cut_on begun [] second none = refl
cut_on begun (byte ∷ first) second none =
    cut_byte (byte == line_feed) begun (with_byte begun byte) first second none (cut_on (with_byte begun byte) first second)

none_byte : (feed : Bool) (begun next behind : List ℕ) → (cond feed (whole begun behind) (cut next behind)).0 ≡ None
    → ((cut next behind).0 ≡ None → (cut next behind).1.behind ≡ [])
    → (cond feed (whole begun behind) (cut next behind)).1.behind ≡ []
none_byte true begun next behind none on = absurd (none_some none)
none_byte false begun next behind none on = on none

-- nothing is left after it
pub none_behind : (begun behind : List ℕ) → (cut begun behind).0 ≡ None → (cut begun behind).1.behind ≡ []
none_behind begun [] none = refl
none_behind begun (byte ∷ behind) none = none_byte (byte == line_feed) begun (with_byte begun byte) behind none (none_behind (with_byte begun byte) behind)

no_line : {A : Type 0} (f : A → List ℕ) (result : Option A) (found : Option (List ℕ)) → is_some result ≡ false → option_map f result ≡ found → found ≡ None
no_line f None found none is = sym is
no_line f (Some one) found none is = absurd (true_false none)

-- where nothing was cut, all was taken
pub all_taken : {A : Type 0} (f : A → List ℕ) (result : Option A) (begun behind : List ℕ) (rest : Waiting) → is_some result ≡ false
    → option_map f result ≡ (cut begun behind).0 → rest ≡ (cut begun behind).1 → rest.behind ≡ []
all_taken f result begun behind rest none line is = ap (λ (w : Waiting). w.behind) is ∙ none_behind begun behind (no_line f result _ none line)

pair_is : {A B : Type 0} (pair : A × B) {x : A} {y : B} → x ≡ pair.0 → y ≡ pair.1 → pair ≡ (x, y)
pair_is (a, b) first second = cc

-- and the next line is cut once more came
pub then_cut : {A : Type 0} (f : A → List ℕ) (result : Option A) (begun behind came : List ℕ) (rest read end : Waiting) (line : Option (List ℕ)) → is_some result ≡ false
    → option_map f result ≡ (cut begun behind).0 → rest ≡ (cut begun behind).1
    → read ≡ record { begun = rest.begun; behind = came }
    → line ≡ (cut read.begun read.behind).0 → end ≡ (cut read.begun read.behind).1
    → cut begun (behind ++ came) ≡ (line, end)
then_cut f result begun behind came rest read end line none found left read_is line_is end_is =
    cut_on begun behind came (no_line f result _ none found)
    ∙ ap (λ (w : Waiting). cut w.begun came) (sym left)
    ∙ ap (λ (w : Waiting). cut w.begun w.behind) (sym read_is)
    ∙ pair_is (cut read.begun read.behind) line_is end_is

-- ---- all lines

one_byte : (feed : Bool) (begun next behind : List ℕ) → lines next behind ≡ handed_on (cut next behind)
    → cond feed (begun ∷ lines [] behind) (lines next behind) ≡ handed_on (cond feed (whole begun behind) (cut next behind))
one_byte true begun next behind on = refl
one_byte false begun next behind on = on

pub one_by_one : (begun behind : List ℕ) → lines begun behind ≡ handed_on (cut begun behind)
one_by_one begun [] = refl
one_by_one begun (byte ∷ behind) = one_byte (byte == line_feed) begun (with_byte begun byte) behind (one_by_one (with_byte begun byte) behind)

piece_byte : (feed : Bool) (begun next first second : List ℕ)
    → lines [] (first ++ second) ≡ lines [] first ++ lines (left [] first) second
    → lines next (first ++ second) ≡ lines next first ++ lines (left next first) second
    → cond feed (begun ∷ lines [] (first ++ second)) (lines next (first ++ second))
    ≡ cond feed (begun ∷ lines [] first) (lines next first) ++ lines (cond feed (left [] first) (left next first)) second
piece_byte true begun next first second anew on = ap (λ l. begun ∷ l) anew
piece_byte false begun next first second anew on = on

pub in_pieces : (begun first second : List ℕ) → lines begun (first ++ second) ≡ lines begun first ++ lines (left begun first) second
in_pieces begun [] second = refl
in_pieces begun (byte ∷ first) second =
    piece_byte (byte == line_feed) begun (with_byte begun byte) first second (in_pieces [] first second) (in_pieces (with_byte begun byte) first second)

left_byte : (feed : Bool) (next first second : List ℕ)
    → left [] (first ++ second) ≡ left (left [] first) second
    → left next (first ++ second) ≡ left (left next first) second
    → cond feed (left [] (first ++ second)) (left next (first ++ second)) ≡ left (cond feed (left [] first) (left next first)) second
left_byte true next first second anew on = anew
left_byte false next first second anew on = on

pub left_in_pieces : (begun first second : List ℕ) → left begun (first ++ second) ≡ left (left begun first) second
left_in_pieces begun [] second = refl
left_in_pieces begun (byte ∷ first) second =
    left_byte (byte == line_feed) (with_byte begun byte) first second (left_in_pieces [] first second) (left_in_pieces (with_byte begun byte) first second)
