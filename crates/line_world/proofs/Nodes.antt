-- The two ends of a line as nodes of an abstract line, and the moves by which they go on.
use Rattle.std.proofs.Common.{◌≡◌, ◌∙◌, ◌++◌, ℕ, zero, suc, Bool, true, false, cond, List, [], ◌∷◌, ap, drop, length, map, refl, sym, take}
use Rattle.std.proofs.lemmas.Bool.{false≢true}
use Rattle.std.proofs.lemmas.List.{append-nil, append_assoc}
use Rattle.line_laws.specs.End.{End, File, unlinked}
use Rattle.line_laws.specs.Line.{Line, Node, ComesUp, Enters, Gives, Leaves, Opens, after, file_after, items_given, left, right_rules, with_coming}
use Rattle.line_laws.specs.Link.{Before, Gone, Place, Started, Up, coming_more}
use Rattle.line_laws.specs.declared.words.Item.{Item}
use Rattle.line_laws.specs.declared.words.Side.{Side}
use Rattle.line_laws.specs.declared.words.Side.TheVariants.{First, Second}
use Rattle.line_telegram.specs.declared.message.LineMessage.{LineMessage}
use Rattle.line_telegram.specs.declared.message.LineMessage.TheVariants.{Line as Says, VersionAnswer, VersionCheck}

-- ---- what is said and not heard

abbrev pub items_of : List LineMessage → List Item
items_of [] = []
items_of (VersionCheck version ∷ messages) = items_of messages
items_of (VersionAnswer agreement version ∷ messages) = items_of messages
items_of (Says item ∷ messages) = item ∷ items_of messages

pub items_append : (some more : List LineMessage) → items_of (some ++ more) ≡ items_of some ++ items_of more
items_append [] more = refl
items_append (VersionCheck version ∷ some) more = items_append some more
items_append (VersionAnswer agreement version ∷ some) more = items_append some more
items_append (Says item ∷ some) more = ap (λ (items : List Item). item ∷ items) (items_append some more)

pub items_are : (items : List Item) → items_of (map Says items) ≡ items
items_are [] = refl
items_are (item ∷ items) = ap (λ (more : List Item). item ∷ more) (items_are items)

-- the items that one has said and the other hasn't heard
abbrev pub unheard : (said heard : List LineMessage) → List Item
unheard said heard = drop (length (items_of heard)) (items_of said)

pub drop_front : (front rest : List Item) → drop (length front) (front ++ rest) ≡ rest
drop_front [] rest = refl
drop_front (item ∷ front) rest = drop_front front rest

pub take_front : (front rest : List Item) → take (length front) (front ++ rest) ≡ front
take_front [] rest = refl
take_front (item ∷ front) rest = ap (λ (items : List Item). item ∷ items) (take_front front rest)

abbrev nothing_coming : List Item
nothing_coming = []

pub drop_none : (count : ℕ) → drop count nothing_coming ≡ []
drop_none zero = refl
drop_none (suc count) = refl

-- ---- an end, as far as its node goes

pub record Half : Type 0 where
  -- its link is in a connection; and what is told there is for the end of the line
  pub opened : Bool
  pub joined : Bool
  pub end : End
  pub file : File
  pub busy : Bool
  -- what it has said and heard in its last connection
  pub said : List LineMessage
  pub heard : List LineMessage

-- An end out of any connection: the second may still enter the client's last one where it hasn't been in that.
abbrev pub place_of : Side → (opened joined same : Bool) → Place
place_of First opened joined same = cond opened (cond joined Up Started) Gone
place_of Second opened joined same = cond opened (cond joined Up Started) (cond same Gone Before)

abbrev pub node_from : Side → (same : Bool) → Half → (said : List LineMessage) → Node
node_from side same half said = record {
  end = cond half.joined half.end (unlinked half.end);
  file = half.file;
  busy = half.busy;
  place = place_of side half.opened half.joined same;
  coming = cond half.opened (cond same (unheard said half.heard) []) [];
}

-- where the last connections of both ends are the same, or aren't
abbrev pub line_by : Side → (same : Bool) → (near far : Half) → Line
line_by First same near far = record { first = node_from First same near far.said; second = node_from Second same far near.said }
line_by Second same near far = record { first = node_from First same far near.said; second = node_from Second same near far.said }

-- ---- an end leaves

abbrev pub shut : Half → Half
shut half = record half { opened = false; joined = false }

-- the second end is in no connection but the client's last one
abbrev pub IsThere : Side → (same : Bool) → Type 0
IsThere First same = Unit {0}
IsThere Second same = same ≡ true

left_is : (side : Side) (opened joined same : Bool) (end : End) (file : File) (busy : Bool) (own heard said : List LineMessage) → (opened ≡ true → IsThere side same)
    → left (node_from side same (record { opened = opened; joined = joined; end = end; file = file; busy = busy; said = own; heard = heard }) said)
    ≡ node_from side same (record { opened = false; joined = false; end = end; file = file; busy = busy; said = own; heard = heard }) said
left_is First true true same end file busy own heard said there = refl
left_is First true false same end file busy own heard said there = refl
left_is First false true same end file busy own heard said there = refl
left_is First false false same end file busy own heard said there = refl
left_is Second true true true end file busy own heard said there = refl
left_is Second true false true end file busy own heard said there = refl
left_is Second true joined false end file busy own heard said there = absurd (false≢true (there refl))
left_is Second false true true end file busy own heard said there = refl
left_is Second false false true end file busy own heard said there = refl
left_is Second false true false end file busy own heard said there = refl
left_is Second false false false end file busy own heard said there = refl

pub leaves_is : (side : Side) (same : Bool) (near far : Half) → (near.opened ≡ true → IsThere side same)
    → after right_rules (Leaves side) (line_by side same near far) ≡ line_by side same (shut near) far
leaves_is First same near far there =
    ap (λ (n : Node). record { first = n; second = node_from Second same far near.said })
    (left_is First near.opened near.joined same near.end near.file near.busy near.said near.heard far.said there)
leaves_is Second same near far there =
    ap (λ (n : Node). record { first = node_from First same far near.said; second = n })
    (left_is Second near.opened near.joined same near.end near.file near.busy near.said near.heard far.said there)

-- ---- an end comes up

pub comes_up_is : (side : Side) (same : Bool) (near far : Half) → near.opened ≡ true → near.joined ≡ false → near.end ≡ unlinked near.end
    → after right_rules (ComesUp side) (line_by side same near far) ≡ line_by side same (record near { joined = true }) far
comes_up_is First same near far opened down out =
    rw (opened, down) (ap (λ (e : End). record {
      first = record { end = e; file = near.file; busy = near.busy; place = Up; coming = cond same (unheard far.said near.heard) [] };
      second = node_from Second same far near.said;
    }) (sym out))
comes_up_is Second same near far opened down out =
    rw (opened, down) (ap (λ (e : End). record {
      first = node_from First same far near.said;
      second = record { end = e; file = near.file; busy = near.busy; place = Up; coming = cond same (unheard far.said near.heard) [] };
    }) (sym out))

-- ---- the second end enters, the first opens

-- an end at the beginning of a connection
abbrev pub starting : Half → Half
starting half = record half { opened = true; joined = false; said = []; heard = [] }

pub enters_is : (near far : Half) → near.opened ≡ false → near.joined ≡ false → far.said ≡ []
    → after right_rules Enters (line_by Second false near far) ≡ line_by Second true (starting near) far
enters_is near far out down silent =
    rw (out, down, silent) (ap (λ (c : List Item). record {
      first = record { end = cond far.joined far.end (unlinked far.end); file = far.file; busy = far.busy; place = cond far.opened (cond far.joined Up Started) Gone; coming = c };
      second = record { end = unlinked near.end; file = near.file; busy = near.busy; place = Started; coming = [] };
    }) (by_opened far.opened))
  where
    by_opened : (opened : Bool) → cond opened nothing_coming [] ≡ cond opened (unheard [] far.heard) []
    by_opened true = sym (drop_none (length (items_of far.heard)))
    by_opened false = refl

pub opens_is : (same : Bool) (near far : Half) → near.opened ≡ false → near.joined ≡ false → far.opened ≡ false
    → after right_rules Opens (line_by First same near far) ≡ line_by First false (starting near) far
opens_is true near far closed down out = rw (closed, down, out) refl
opens_is false near far closed down out = rw (closed, down, out) refl

-- ---- an end looks: what it gives

pub given_by : (items : List Item) → items_given (map Gives items) ≡ items
given_by [] = refl
given_by (item ∷ items) = ap (λ (more : List Item). item ∷ more) (given_by items)

pub file_by : (items : List Item) (file : File) → file_after (map Gives items) file ≡ file
file_by [] file = refl
file_by (item ∷ items) file = file_by items file

-- what the partner has heard is a beginning of what was said
pub record HasMore (said heard : List LineMessage) : Type 0 where
  pub rest : List Item
  pub is : items_of said ≡ items_of heard ++ rest

more_unheard : (said heard : List LineMessage) (items : List Item) (more : List LineMessage) → HasMore said heard → items_of more ≡ items_of said ++ items
    → unheard more heard ≡ unheard said heard ++ items
more_unheard said heard items more has is =
    let after : unheard more heard ≡ has.rest ++ items =
    ap (drop (length (items_of heard))) (is ∙ (ap (λ (list : List Item). list ++ items) has.is ∙ append_assoc (items_of heard) has.rest items))
    ∙ drop_front (items_of heard) (has.rest ++ items)
    in let before : unheard said heard ≡ has.rest = ap (drop (length (items_of heard))) has.is ∙ drop_front (items_of heard) has.rest
    in after ∙ ap (λ (list : List Item). list ++ items) (sym before)

-- these are given to an end
pub gives_is : (side : Side) (same : Bool) (half : Half) (items : List Item) (said more : List LineMessage) → HasMore said half.heard → items_of more ≡ items_of said ++ items
    → same ≡ true → with_coming items (node_from side same half said) ≡ node_from side same half more
gives_is First same half items said more has is together = rw together (by_opened half.opened half.joined)
  where
    with_items : Bool → Place → List Item → Node
    with_items joined place coming = record { end = cond joined half.end (unlinked half.end); file = half.file; busy = half.busy; place = place; coming = coming }

    by_opened : (opened joined : Bool) → with_items joined (cond opened (cond joined Up Started) Gone) (coming_more (cond opened (cond joined Up Started) Gone) items (cond opened (unheard said half.heard) []))
        ≡ with_items joined (cond opened (cond joined Up Started) Gone) (cond opened (unheard more half.heard) [])
    by_opened true true = ap (with_items true Up) (sym (more_unheard said half.heard items more has is))
    by_opened true false = ap (with_items false Started) (sym (more_unheard said half.heard items more has is))
    by_opened false joined = refl
gives_is Second same half items said more has is together = rw together (by_opened half.opened half.joined)
  where
    with_items : Bool → Place → List Item → Node
    with_items joined place coming = record { end = cond joined half.end (unlinked half.end); file = half.file; busy = half.busy; place = place; coming = coming }

    by_opened : (opened joined : Bool) → with_items joined (cond opened (cond joined Up Started) Gone) (coming_more (cond opened (cond joined Up Started) Gone) items (cond opened (unheard said half.heard) []))
        ≡ with_items joined (cond opened (cond joined Up Started) Gone) (cond opened (unheard more half.heard) [])
    by_opened true true = ap (with_items true Up) (sym (more_unheard said half.heard items more has is))
    by_opened true false = ap (with_items false Started) (sym (more_unheard said half.heard items more has is))
    by_opened false joined = refl

-- nothing is
more_none : (place : Place) (coming : List Item) → coming_more place [] coming ≡ coming
more_none Before coming = append-nil coming
more_none Started coming = append-nil coming
more_none Up coming = append-nil coming
more_none Gone coming = refl

pub none_is : (node : Node) → with_coming [] node ≡ node
none_is node = ap (λ (c : List Item). record node { coming = c }) (more_none node.place node.coming)
