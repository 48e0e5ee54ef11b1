-- Items on the way: how many there are when one is given, when one is taken, and when an end leaves.
use Rattle.std.proofs.Common.{◌≡◌, ◌+◌, ◌≤◌, ℕ, Bool, true, false, not, List, [], ◌∷◌, ◌++◌, take, drop, refl, sym, ap, ◌∙◌, append_assoc, arith}
use Rattle.std.proofs.lemmas.List.{append-nil, take-append-drop}
use Rattle.std.specs.Prelude.{◌&&◌, if◌then◌else◌}
use Rattle.line_laws.specs.declared.words.Item.{Item}
use Rattle.line_laws.specs.Link.{Place, Before, Started, Up, Gone, coming_more, coming_left}
use Rattle.line_laws.specs.Line.{Node, with_coming}
use Rattle.line_laws.specs.Invariant.{number, how_many, later}

-- ---- tests

pub both : (a b : Bool) → a && b ≡ true → (a ≡ true) × (b ≡ true)
both true b e = (refl, e)
both false b e = cc

pub not_true : (a : Bool) → not a ≡ true → a ≡ false
not_true true e = cc
not_true false e = refl

pub by_test : {A : Type 0} (Fact : A → Type 0) (test : Bool) (new old : A) → (test ≡ true → Fact new) → (test ≡ false → Fact old) → Fact (if test then new else old)
by_test Fact true new old holds fails = holds refl
by_test Fact false new old holds fails = fails refl

-- ---- counting

pub number_small : (b : Bool) → number b ≤ 1
number_small true = omega arith
number_small false = omega arith

pub number_none : (b : Bool) → (b ≡ true → ⊥) → number b ≡ 0
number_none true isnt = absurd (isnt refl)
number_none false isnt = refl

pub how_many-append : (is : Item → Bool) (items more : List Item) → how_many is (items ++ more) ≡ how_many is items + how_many is more
how_many-append is [] more = omega arith
how_many-append is (item ∷ items) more = omega (arith, how_many-append is items more)

pub later_fewer : (is : Item → Bool) (items : List Item) → how_many is (later items) ≤ how_many is items
later_fewer is [] = omega arith
later_fewer is (item ∷ items) = omega arith

-- ---- one more is given

pub one_more : (is : Item → Bool) (place : Place) (item : Item) (items : List Item) → how_many is (coming_more place (item ∷ []) items) ≤ how_many is items + number (is item)
one_more is Before item items = omega (arith, how_many-append is items (item ∷ []))
one_more is Started item items = omega (arith, how_many-append is items (item ∷ []))
one_more is Up item items = omega (arith, how_many-append is items (item ∷ []))
one_more is Gone item items = omega arith

later_append : (is : Item → Bool) (item : Item) (items : List Item) → how_many is (later (items ++ item ∷ [])) ≤ how_many is (later items) + number (is item)
later_append is item [] = omega arith
later_append is item (next ∷ items) = omega (arith, how_many-append is items (item ∷ []))

pub later_more : (is : Item → Bool) (place : Place) (item : Item) (items : List Item)
    → how_many is (later (coming_more place (item ∷ []) items)) ≤ how_many is (later items) + number (is item)
later_more is Before item items = later_append is item items
later_more is Started item items = later_append is item items
later_more is Up item items = later_append is item items
later_more is Gone item items = omega arith

-- what is given to an end in parts, or not at all
more_in_parts : (place : Place) (items more coming : List Item) → coming_more place more (coming_more place items coming) ≡ coming_more place (items ++ more) coming
more_in_parts Before items more coming = append_assoc coming items more
more_in_parts Started items more coming = append_assoc coming items more
more_in_parts Up items more coming = append_assoc coming items more
more_in_parts Gone items more coming = refl

pub given_in_parts : (items more : List Item) (node : Node) → with_coming more (with_coming items node) ≡ with_coming (items ++ more) node
given_in_parts items more node = ap (λ (coming : List Item). record node { coming = coming }) (more_in_parts node.place items more node.coming)

nothing_more : (place : Place) (coming : List Item) → coming_more place [] coming ≡ coming
nothing_more Before coming = append-nil coming
nothing_more Started coming = append-nil coming
nothing_more Up coming = append-nil coming
nothing_more Gone coming = refl

pub nothing_given : (node : Node) → with_coming [] node ≡ node
nothing_given node = ap (λ (coming : List Item). record node { coming = coming }) (nothing_more node.place node.coming)

-- ---- fewer are given, or an end leaves

pub less_fewer : (is : Item → Bool) (items lost all : List Item) → all ≡ items ++ lost → how_many is items ≤ how_many is all
less_fewer is items lost all e = omega (arith, how_many-append is items lost, ap (how_many is) e)

later_before : (is : Item → Bool) (items lost : List Item) → how_many is (later items) ≤ how_many is (later (items ++ lost))
later_before is [] lost = omega arith
later_before is (item ∷ items) lost = omega (arith, how_many-append is items lost)

pub less_later : (is : Item → Bool) (items lost all : List Item) → all ≡ items ++ lost → how_many is (later items) ≤ how_many is (later all)
less_later is items lost all e = omega (arith, later_before is items lost, ap (λ (list : List Item). how_many is (later list)) e)

pub less_none : (items lost all : List Item) → all ≡ items ++ lost → all ≡ [] → items ≡ []
less_none [] lost all e none = refl
less_none (item ∷ items) lost all e none = cc

-- the first of the items that are given, and what is lost of all
pub given_less : (place : Place) (count : ℕ) (items coming : List Item) → (lost : List Item) × (coming_more place items coming ≡ coming_more place (take count items) coming ++ lost)
given_less Before count items coming =
    (drop count items, sym (append_assoc coming (take count items) (drop count items) ∙ ap (λ (list : List Item). coming ++ list) (take-append-drop count items)))
given_less Started count items coming =
    (drop count items, sym (append_assoc coming (take count items) (drop count items) ∙ ap (λ (list : List Item). coming ++ list) (take-append-drop count items)))
given_less Up count items coming =
    (drop count items, sym (append_assoc coming (take count items) (drop count items) ∙ ap (λ (list : List Item). coming ++ list) (take-append-drop count items)))
given_less Gone count items coming = ([], sym (append-nil coming))

pub left_fewer : (is : Item → Bool) (place : Place) (items : List Item) → how_many is (coming_left place items) ≤ how_many is items
left_fewer is Before items = omega arith
left_fewer is Started items = omega arith
left_fewer is Up items = omega arith
left_fewer is Gone items = omega arith

pub left_later : (is : Item → Bool) (place : Place) (items : List Item) → how_many is (later (coming_left place items)) ≤ how_many is (later items)
left_later is Before items = omega arith
left_later is Started items = omega arith
left_later is Up items = omega arith
left_later is Gone items = omega arith

pub left_none : (place : Place) (items : List Item) → items ≡ [] → coming_left place items ≡ []
left_none Before items none = none
left_none Started items none = refl
left_none Up items none = refl
left_none Gone items none = refl
