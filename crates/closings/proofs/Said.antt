-- Words name what says them, and are read as they were written.
use Rattle.std.proofs.Common.{◌≡◌, ◌⊎◌, ◌∙◌, ℕ, zero, suc, ◌+◌, ◌<◌, ◌==◌, ◌&&◌, ◌||◌, Bool, true, false, not, cond, List, [], ◌∷◌, ◌++◌, length, length-append, take, drop, get_or, Option, Some, None, option_and_then, slice_get, Bor, lit<, codes, if◌then◌else◌, All, refl, sym, ap, subst, inl, inr, ⊎_elim, arith, option_map}
use Rattle.std.specs.Option.{MatchOption, option_map_or, option_or}
use Rattle.std.specs.List.{after_first, before_first, list_all, position_or_len}
use Rattle.std.specs.Str.{bytes_eq}
use Rattle.std.proofs.lemmas.Bool.{eqb-true}
use Rattle.std.proofs.lemmas.Bool.Decides.{nat_tests}
use Rattle.std.proofs.lemmas.List.Elements.{All-contains}
use Rattle.std.proofs.lemmas.List.Sums.{passes_at_first, prefix_len-le-length, split_at_first}
use Rattle.std.proofs.lemmas.Option.{slice_get-map}
use Rattle.std.proofs.lemmas.Slice.Eq.{bytes_eq-Decides}
use Rattle.std.proofs.lemmas.Str.Pattern.{IsSplitOnceResult, split_once_first}
use Rattle.std.proofs.Math.Seq.{take-append_seam, drop-append-add}
use Rattle.control_table.specs.sci_telegram.Names.{IsName, is_name_byte}
use Rattle.control_table.specs.sci_telegram.declared.message.Side.{Side}
use Rattle.control_table.specs.sci_telegram.declared.message.Side.TheVariants as side
use Rattle.control_table.specs.layout.Entries.{Site}
use Rattle.control_table.specs.layout.Once.{Once}
use Rattle.control_table.specs.layout.Station.{IsStation}
use Rattle.closings.specs.declared.thing.Thing.TheVariants.{Section, Point, Signal, Route}
use Rattle.closings.specs.declared.thing.Named.{Named}
use Rattle.closings.specs.declared.thing.Named.TheVariants.{One, BothSides}
use Rattle.closings.specs.Things.{HasNamed, IsPlaced}
use Rattle.closings.specs.Words.{Says, is_plain, name_of, named, named_by, point_place, side_of, side_said, side_word, signal_place, with_side, words_of}
use Rattle.closings.proofs.Places.{absent, found, get-contains, get-within, place_in, position-map, some-same, stands, within-get}
use Rattle.closings.proofs.Apart.{AreNames, AreOnce, Names, names, names_named, names_once}

-- ---- in the lists of names

abbrev pub name_in : Names → Named → Option (List ℕ)
name_in n (One (Section s)) = slice_get n.sections s.0
name_in n (One (Point p side)) = slice_get n.points p.0
name_in n (One (Signal s)) = slice_get n.signals s.0
name_in n (One (Route r)) = slice_get n.routes r.0
name_in n (BothSides p) = slice_get n.points p.0

name_of-in : (l : Site) (m : Named) → name_in (names l) m ≡ name_of l m
name_of-in l (One (Section s)) = refl
name_of-in l (One (Point p side)) = slice_get-map (λ p. p.name) l.points p.0
name_of-in l (One (Signal s)) = slice_get-map (λ s. s.name) l.signals s.0
name_of-in l (One (Route r)) = slice_get-map (λ r. r.name) l.routes r.0
name_of-in l (BothSides p) = slice_get-map (λ p. p.name) l.points p.0

abbrev pub as_section : ℕ → Named
as_section k = One (Section (record { 0 = k }))

abbrev pub as_point : ℕ → Named
as_point k = BothSides (record { 0 = k })

abbrev pub as_signal : ℕ → Named
as_signal k = One (Signal (record { 0 = k }))

abbrev pub as_route : ℕ → Named
as_route k = One (Route (record { 0 = k }))

-- the first of four places that was found
abbrev pub first_of : Option ℕ → Option ℕ → Option ℕ → Option ℕ → Option Named
first_of a b c d = option_or (option_map as_section a) (option_or (option_map as_point b) (option_or (option_map as_signal c) (option_map as_route d)))

abbrev pub named_in : Names → List ℕ → Option Side → Option Named
named_in n word (Some side) = option_map (λ k. One (Point (record { 0 = k }) side)) (place_in n.points word)
named_in n word None = first_of (place_in n.sections word) (place_in n.points word) (place_in n.signals word) (place_in n.routes word)

named-in : (l : Site) (word : List ℕ) (side : Option Side) → named_in (names l) word side ≡ named l word side
named-in l word (Some side) = ap (option_map (λ k. One (Point (record { 0 = k }) side))) (position-map (λ n. bytes_eq n word) (λ p. p.name) l.points)
named-in l word None =
    ap (λ b. first_of (place_in l.sections word) b (place_in (names l).signals word) (place_in (names l).routes word)) (position-map (λ n. bytes_eq n word) (λ p. p.name) l.points)
    ∙ ap (λ c. first_of (place_in l.sections word) (point_place l word) c (place_in (names l).routes word)) (position-map (λ n. bytes_eq n word) (λ s. s.name) l.signals)
    ∙ ap (λ d. first_of (place_in l.sections word) (point_place l word) (signal_place l word) d) (position-map (λ n. bytes_eq n word) (λ r. r.name) l.routes)

-- what says its words is named by them
said : (n : Names) → AreOnce n → (m : Named) (word : List ℕ) → name_in n m ≡ Some word → named_in n word (side_of m) ≡ Some m
said n once (One (Section s)) word e =
    ap (λ a. first_of a (place_in n.points word) (place_in n.signals word) (place_in n.routes word)) (found n.sections s.0 word once.sections e)
said n once (One (Point p side)) word e = ap (option_map (λ k. One (Point (record { 0 = k }) side))) (found n.points p.0 word once.points e)
said n once (One (Signal s)) word e =
    let here = get-contains n.signals s.0 word e in
    ap (λ a. first_of a (place_in n.points word) (place_in n.signals word) (place_in n.routes word)) (absent n.sections word (λ c. once.sections_signals word c here))
    ∙ ap (λ b. first_of None b (place_in n.signals word) (place_in n.routes word)) (absent n.points word (λ c. once.points_signals word c here))
    ∙ ap (λ c. first_of None None c (place_in n.routes word)) (found n.signals s.0 word once.signals e)
said n once (One (Route r)) word e =
    let here = get-contains n.routes r.0 word e in
    ap (λ a. first_of a (place_in n.points word) (place_in n.signals word) (place_in n.routes word)) (absent n.sections word (λ c. once.sections_routes word c here))
    ∙ ap (λ b. first_of None b (place_in n.signals word) (place_in n.routes word)) (absent n.points word (λ c. once.points_routes word c here))
    ∙ ap (λ c. first_of None None c (place_in n.routes word)) (absent n.signals word (λ c. once.signals_routes word c here))
    ∙ ap (first_of None None None) (found n.routes r.0 word once.routes e)
said n once (BothSides p) word e =
    let here = get-contains n.points p.0 word e in
    ap (λ a. first_of a (place_in n.points word) (place_in n.signals word) (place_in n.routes word)) (absent n.sections word (λ c. once.sections_points word c here))
    ∙ ap (λ b. first_of None b (place_in n.signals word) (place_in n.routes word)) (found n.points p.0 word once.points e)

-- what was found is what was taken, or something was found behind it
taken : (a : Option ℕ) (f : ℕ → Named) (rest : Option Named) (m : Named) → option_or (option_map f a) rest ≡ Some m → ((k : ℕ) × (a ≡ Some k) × (f k ≡ m)) ⊎ (rest ≡ Some m)
taken None f rest m e = inr e
taken (Some k) f rest m e = inl (k, refl, some-same (f k) m e)

mapped : (a : Option ℕ) (f : ℕ → Named) (m : Named) → option_map f a ≡ Some m → (k : ℕ) × (a ≡ Some k) × (f k ≡ m)
mapped None f m e = absurd (cc)
mapped (Some k) f m e = (k, refl, some-same (f k) m e)

-- what words name says them
abbrev pub SaysIn : Names → List ℕ → Option Side → Named → Type 0
SaysIn n word side m = (name_in n m ≡ Some word) × (side_of m ≡ side)

unsaid : (n : Names) (word : List ℕ) (side : Option Side) (m : Named) → named_in n word side ≡ Some m → SaysIn n word side m
unsaid n word (Some side) m e =
    let h = mapped (place_in n.points word) (λ k. One (Point (record { 0 = k }) side)) m e in
    subst (SaysIn n word (Some side)) h.2 (stands n.points word h.0 h.1, refl)
unsaid n word None m e =
    let P : Named → Type 0 = SaysIn n word None in
    ⊎_elim (λ h. subst P h.2 (stands n.sections word h.0 h.1, refl))
    (λ further. ⊎_elim (λ h. subst P h.2 (stands n.points word h.0 h.1, refl))
    (λ further. ⊎_elim (λ h. subst P h.2 (stands n.signals word h.0 h.1, refl))
    (λ last. let h = mapped (place_in n.routes word) as_route m last in subst P h.2 (stands n.routes word h.0 h.1, refl))
    (taken (place_in n.signals word) as_signal (option_map as_route (place_in n.routes word)) m further))
    (taken (place_in n.points word) as_point (option_or (option_map as_signal (place_in n.signals word)) (option_map as_route (place_in n.routes word))) m further))
    (taken (place_in n.sections word) as_section (option_or (option_map as_point (place_in n.points word)) (option_or (option_map as_signal (place_in n.signals word)) (option_map as_route (place_in n.routes word)))) m e)

-- ---- in a layout

pub says_named : (l : Site) → Once l → (m : Named) (word : List ℕ) (side : Option Side) → Says l m word side → named l word side ≡ Some m
says_named l once m word side says =
    sym (named-in l word side) ∙ ap (named_in (names l) word) (sym says.at) ∙ said (names l) (names_once l once) m word (name_of-in l m ∙ says.name)

pub named_says : (l : Site) (m : Named) (word : List ℕ) (side : Option Side) → named l word side ≡ Some m → Says l m word side
named_says l m word side e =
    let h = unsaid (names l) word side m (named-in l word side ∙ e) in
    record { name = sym (name_of-in l m) ∙ h.0; at = h.1 }

mapped-within : {A B : Type 0} (f : A → B) (xs : List A) (k : ℕ) (y : B) → option_map f (slice_get xs k) ≡ Some y → k < length xs
mapped-within f [] k y e = absurd (cc)
mapped-within f (x ∷ xs) zero y e = omega arith
mapped-within f (x ∷ xs) (suc k) y e = let below = mapped-within f xs k y e in omega arith

name_there : (l : Site) (m : Named) (word : List ℕ) → name_of l m ≡ Some word → HasNamed l m
name_there l (One (Section s)) word e = get-within l.sections s.0 word e
name_there l (One (Point p side)) word e = mapped-within (λ p. p.name) l.points p.0 word e
name_there l (One (Signal s)) word e = mapped-within (λ s. s.name) l.signals s.0 word e
name_there l (One (Route r)) word e = mapped-within (λ r. r.name) l.routes r.0 word e
name_there l (BothSides p) word e = mapped-within (λ p. p.name) l.points p.0 word e

pub named_there : (l : Site) (m : Named) (word : List ℕ) (side : Option Side) → named l word side ≡ Some m → HasNamed l m
named_there l m word side e = name_there l m word (named_says l m word side e).name

there_name : (l : Site) (m : Named) → HasNamed l m → (word : List ℕ) × (name_of l m ≡ Some word)
there_name l (One (Section s)) h = within-get l.sections s.0 h
there_name l (One (Point p side)) h = let at = within-get l.points p.0 h in (at.0.name, ap (option_map (λ p. p.name)) at.1)
there_name l (One (Signal s)) h = let at = within-get l.signals s.0 h in (at.0.name, ap (option_map (λ s. s.name)) at.1)
there_name l (One (Route r)) h = let at = within-get l.routes r.0 h in (at.0.name, ap (option_map (λ r. r.name)) at.1)
there_name l (BothSides p) h = let at = within-get l.points p.0 h in (at.0.name, ap (option_map (λ p. p.name)) at.1)

pub there_placed : (l : Site) → IsStation l → (m : Named) → HasNamed l m → IsPlaced m
there_placed l station (One (Section s)) h = omega (arith, station.limits.sections)
there_placed l station (One (Point p side)) h = omega (arith, station.limits.points)
there_placed l station (One (Signal s)) h = omega (arith, station.limits.signals)
there_placed l station (One (Route r)) h = omega (arith, station.limits.routes)
there_placed l station (BothSides p) h = omega (arith, station.limits.points)

-- ---- as one text

abbrev pub space : ℕ → Bool
space b = b == 32

all-at : (names : List (List ℕ)) (k : ℕ) (word : List ℕ) → All IsName names → slice_get names k ≡ Some word → IsName word
all-at names k word h e = All-contains IsName names word h (get-contains names k word e)

is_name : (n : Names) → AreNames n → (m : Named) (word : List ℕ) → name_in n m ≡ Some word → IsName word
is_name n h (One (Section s)) word e = all-at n.sections s.0 word h.sections e
is_name n h (One (Point p side)) word e = all-at n.points p.0 word h.points e
is_name n h (One (Signal s)) word e = all-at n.signals s.0 word h.signals e
is_name n h (One (Route r)) word e = all-at n.routes r.0 word h.routes e
is_name n h (BothSides p) word e = all-at n.points p.0 word h.points e

both : (a b : Bool) → (a && b) ≡ true → (a ≡ true) × (b ≡ true)
both true b e = (refl, e)
both false b e = cc

no_space : (b : ℕ) → is_name_byte b ≡ true → space b ≡ false
no_space b e = by (space b) refl
  where
    by : (v : Bool) → space b ≡ v → v ≡ false
    by true h =
        let same : is_name_byte b ≡ is_name_byte 32 = ap is_name_byte (eqb-true b 32 h) in
        cc
    by false h = refl

-- a name goes up to the first space behind it
name_length : (word rest : List ℕ) → list_all is_name_byte word ≡ true → position_or_len space rest ≡ 0 → position_or_len space (word ++ rest) ≡ length word
name_length [] rest e at = at
name_length (b ∷ word) rest e at =
    let parts = both (is_name_byte b) (list_all is_name_byte word) e in
    one (space b) (no_space b parts.0) (position_or_len space (word ++ rest)) (name_length word rest parts.1 at)
  where
    one : (v : Bool) → v ≡ false → (k : ℕ) → k ≡ length word → cond (not v) (1 + k) 0 ≡ length (b ∷ word)
    one true e k h = cc
    one false e k h = omega arith

-- what a text names that is parted at a place
abbrev pub named_parted : Site → List ℕ → ℕ → Option Named
named_parted l text place =
    if place == length text then named l text None
    else option_and_then (λ side. named l (take place text) (Some side)) (side_said (drop (place + 1) text))

side-said : (s : Side) → side_said (side_word s) ≡ Some s
side-said side.Left = refl
side-said side.Right = refl

chosen : {A : Type 0} (v : Bool) (w : Bool) → v ≡ w → (a b : A) → (if v then a else b) ≡ (if w then a else b)
chosen v w e a b = ap (λ u. if u then a else b) e

append-none : (xs : List ℕ) → xs ++ [] ≡ xs
append-none [] = refl
append-none (x ∷ xs) = ap (λ ys. x ∷ ys) (append-none xs)

read_whole : (l : Site) (word : List ℕ) → list_all is_name_byte word ≡ true → named_by l word ≡ named l word None
read_whole l word e =
    let at : position_or_len space word ≡ length word = ap (position_or_len space) (sym (append-none word)) ∙ name_length word [] e refl in
    ap (named_parted l word) at ∙ chosen (length word == length word) true (grind (arith, nat_tests)) _ _

read_sided : (l : Site) (word : List ℕ) (s : Side) → list_all is_name_byte word ≡ true → named_by l (word ++ 32 ∷ side_word s) ≡ named l word (Some s)
read_sided l word s e =
    let text = word ++ 32 ∷ side_word s in
    ap (named_parted l text) (name_length word (32 ∷ side_word s) e refl)
    ∙ chosen (length word == length text) false (grind (arith, nat_tests, length-append)) _ _
    ∙ ap (λ name. option_and_then (λ side. named l name (Some side)) (side_said (drop (length word + 1) text))) (take-append_seam word (32 ∷ side_word s))
    ∙ ap (λ behind. option_and_then (λ side. named l word (Some side)) (side_said behind)) (drop-append-add word (32 ∷ side_word s) 1)
    ∙ ap (option_and_then (λ side. named l word (Some side))) (side-said s)

-- what the layout has is read as it is written
pub words_read : (l : Site) → Once l → IsStation l → (m : Named) → HasNamed l m → named_by l (words_of l m) ≡ Some m
words_read l once station m there =
    let name = there_name l m there in
    let fits = is_name (names l) (names_named l station) m name.0 (name_of-in l m ∙ name.1) in
    ap (λ o. named_by l (with_side (option_map_or (λ name. name) o (codes "_")) (side_of m))) name.1
    ∙ by_side (side_of m) name.0 fits.each
    ∙ says_named l once m name.0 (side_of m) (record { name = name.1; at = refl })
  where
    by_side : (s : Option Side) (word : List ℕ) → list_all is_name_byte word ≡ true → named_by l (with_side word s) ≡ named l word s
    by_side None word e = read_whole l word e
    by_side (Some s) word e = read_sided l word s e

-- what `split_once` at a space finds of it
pub parted_at_space : (l : Site) (text : List ℕ) (r : Option (Bor (List ℕ) × Bor (List ℕ))) → IsSplitOnceResult 32 text r
    → MatchOption r (named_by l text ≡ named l text None) (λ x. named_by l text ≡ option_and_then (λ side. named l x.0.now (Some side)) (side_said x.1.now))
parted_at_space l text r h = told r (split_once_first 32 text r h (lit< tt))
  where
    told : (r : Option (Bor (List ℕ) × Bor (List ℕ)))
        → MatchOption r (position_or_len space text ≡ length text) (λ x. (position_or_len space text < length text) × (x.0.now ≡ before_first space text) × (x.1.now ≡ after_first space text))
        → MatchOption r (named_by l text ≡ named l text None) (λ x. named_by l text ≡ option_and_then (λ side. named l x.0.now (Some side)) (side_said x.1.now))
    told None at = ap (named_parted l text) at ∙ chosen (length text == length text) true (grind (arith, nat_tests)) (named l text None) (option_and_then (λ side. named l (take (length text) text) (Some side)) (side_said (drop (length text + 1) text)))
    told (Some x) at =
        let within = at.0 in
        chosen (position_or_len space text == length text) false (grind (arith, nat_tests)) (named l text None) (option_and_then (λ side. named l (before_first space text) (Some side)) (side_said (after_first space text)))
        ∙ ap (λ name. option_and_then (λ side. named l name (Some side)) (side_said (after_first space text))) (sym at.1)
        ∙ ap (λ behind. option_and_then (λ side. named l x.0.now (Some side)) (side_said behind)) (sym at.2)

-- a word that says a side is the word for it
said-side : (word : List ℕ) (s : Side) → side_said word ≡ Some s → word ≡ side_word s
said-side word s e = by (bytes_eq word (codes "left")) (bytes_eq word (codes "right")) refl refl e
  where
    by : (v w : Bool) → bytes_eq word (codes "left") ≡ v → bytes_eq word (codes "right") ≡ w → (if v then Some side.Left else if w then Some side.Right else None) ≡ Some s → word ≡ side_word s
    by true w left right h = (bytes_eq-Decides word (codes "left")).0 left ∙ ap side_word (some-same side.Left s h)
    by false true left right h = (bytes_eq-Decides word (codes "right")).0 right ∙ ap side_word (some-same side.Right s h)
    by false false left right h = absurd (cc)

written_says : (l : Site) (m : Named) (word : List ℕ) (s : Option Side) → Says l m word s → with_side word s ≡ words_of l m
written_says l m word s says =
    ap (with_side word) (sym says.at) ∙ ap (λ o. with_side (option_map_or (λ name. name) o (codes "_")) (side_of m)) (sym says.name)

-- a text with a space is parted at its first
split_at_space : (xs : List ℕ) → (position_or_len space xs == length xs) ≡ false → xs ≡ take (position_or_len space xs) xs ++ 32 ∷ drop (position_or_len space xs + 1) xs
split_at_space xs other =
    let within : position_or_len space xs < length xs = grind (arith, nat_tests, prefix_len-le-length (λ b. not (space b)) xs) in
    split_at_first space xs 0 within
    ∙ ap (λ b. take (position_or_len space xs) xs ++ b ∷ drop (position_or_len space xs + 1) xs) (eqb-true (get_or xs (position_or_len space xs) 0) 32 (passes_at_first space xs 0 within))

-- what is read was written so
pub words_written : (l : Site) (m : Named) (text : List ℕ) → named_by l text ≡ Some m → HasNamed l m × (text ≡ words_of l m)
words_written l m text e = by (position_or_len space text == length text) refl e
  where
    sided : (o : Option Side) → side_said (drop (position_or_len space text + 1) text) ≡ o → option_and_then (λ side. named l (take (position_or_len space text) text) (Some side)) o ≡ Some m
        → (position_or_len space text == length text) ≡ false → HasNamed l m × (text ≡ words_of l m)
    sided None is h within = absurd (cc)
    sided (Some s) is h within =
        let before = take (position_or_len space text) text in
        let behind = drop (position_or_len space text + 1) text in
        let says = named_says l m before (Some s) h in (
          name_there l m before says.name,
          split_at_space text within ∙ ap (λ rest. before ++ 32 ∷ rest) (said-side behind s is) ∙ written_says l m before (Some s) says,
        )

    by : (v : Bool) → (position_or_len space text == length text) ≡ v
        → (if v then named l text None else option_and_then (λ side. named l (take (position_or_len space text) text) (Some side)) (side_said (drop (position_or_len space text + 1) text))) ≡ Some m
        → HasNamed l m × (text ≡ words_of l m)
    by true is h = let says = named_says l m text None h in (name_there l m text says.name, written_says l m text None says)
    by false is h = sided (side_said (drop (position_or_len space text + 1) text)) refl h is

-- ---- of which bytes words are

all-plain : (word rest : List ℕ) → list_all is_name_byte word ≡ true → list_all is_plain rest ≡ true → list_all is_plain (word ++ rest) ≡ true
all-plain [] rest e h = h
all-plain (b ∷ word) rest e h =
    let parts = both (is_name_byte b) (list_all is_name_byte word) e in
    ap (λ v. (v || b == 32) && list_all is_plain (word ++ rest)) parts.0 ∙ all-plain word rest parts.1 h

pub words_plain : (l : Site) → IsStation l → (m : Named) → HasNamed l m → list_all is_plain (words_of l m) ≡ true
words_plain l station m there =
    let name = there_name l m there in
    let fits = is_name (names l) (names_named l station) m name.0 (name_of-in l m ∙ name.1) in
    ap (λ o. list_all is_plain (with_side (option_map_or (λ name. name) o (codes "_")) (side_of m))) name.1 ∙ by_side (side_of m) name.0 fits.each
  where
    by_side : (s : Option Side) (word : List ℕ) → list_all is_name_byte word ≡ true → list_all is_plain (with_side word s) ≡ true
    by_side None word e = ap (list_all is_plain) (sym (append-none word)) ∙ all-plain word [] e refl
    by_side (Some side.Left) word e = all-plain word (32 ∷ side_word side.Left) e refl
    by_side (Some side.Right) word e = all-plain word (32 ∷ side_word side.Right) e refl
