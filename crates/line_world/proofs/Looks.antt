-- An end looks: what that is to the nodes of an abstract line.
use Rattle.std.proofs.Common.{◌≡◌, ◌∙◌, ◌++◌, ℕ, Bool, true, false, cond, List, [], ap, drop, length, map, refl, sym, take}
use Rattle.std.proofs.lemmas.Bool.{false≢true}
use Rattle.line_laws.specs.End.{End, File, Seen, file_of, made_anew, unlinked}
use Rattle.line_laws.specs.Line.{Line, Node, Outcome, Pair, Cut, Gives, Looks, Refused, Whole, after, file_after, items_given, looked, right_rules, with_coming}
use Rattle.line_laws.specs.Link.{Before, Gone, Place, Started, Up, coming_left, coming_rest, is_up, place_left}
use Rattle.line_laws.specs.Step.{StepSoFar, step}
use Rattle.line_laws.specs.declared.words.Item.{Item}
use Rattle.line_laws.specs.declared.words.Side.{Side}
use Rattle.line_laws.specs.declared.words.Side.TheVariants.{First, Second}
use Rattle.line_telegram.specs.declared.message.LineMessage.{LineMessage}
use Rattle.line_world.proofs.Nodes.{Half, HasMore, IsThere, drop_front, file_by, given_by, gives_is, items_of, line_by, node_from, none_is, place_of, take_front, unheard}

-- ---- a step out of any connection

unlinked_step : (side : Side) (seen : Seen) (items : List Item) (end : End) → step side false seen items (unlinked end) ≡ step side false seen items end
unlinked_step side seen items end = by_busy seen.busy refl
  where
    by_busy : (busy : Bool) → seen.busy ≡ busy → step side false seen items (unlinked end) ≡ step side false seen items end
    by_busy true is = rw is refl
    by_busy false is = rw is refl

-- ---- a node that looks

-- the next items are these, and then those are left to come
abbrev pub up_node : (end : End) (file : File) (busy : Bool) (coming : List Item) → Node
up_node end file busy coming = record { end = end; file = file; busy = busy; place = Up; coming = coming }

up_whole : (side : Side) (seen : Seen) (end : End) (file : File) (busy : Bool) (items rest : List Item) (far : Node) → let so_far = step side true seen items end
    in looked right_rules side seen (length items) Whole (up_node end file busy (items ++ rest)) far
    ≡ record { near = up_node so_far.end (file_of so_far.end) seen.busy rest; far = with_coming so_far.given far }
up_whole side seen end file busy items rest far =
    let by_lists : List Item → List Item → Pair = λ taken left. record {
      near = up_node (step side true seen taken end).end (file_after (map Gives (step side true seen taken end).given) (file_of (step side true seen taken end).end)) seen.busy left;
      far = with_coming (items_given (map Gives (step side true seen taken end).given)) far;
    }
    in let so_far : StepSoFar = step side true seen items end
    in ap (λ (taken : List Item). by_lists taken (drop (length items) (items ++ rest))) (take_front items rest)
    ∙ (ap (by_lists items) (drop_front items rest)
    ∙ (ap (λ (f : File). record { near = up_node so_far.end f seen.busy rest; far = with_coming (items_given (map Gives so_far.given)) far }) (file_by so_far.given (file_of so_far.end))
    ∙ ap (λ (g : List Item). record { near = up_node so_far.end (file_of so_far.end) seen.busy rest; far = with_coming g far }) (given_by so_far.given)))

-- an end that has left, with what its file has
abbrev pub gone_node : (end : End) (file : File) (busy : Bool) → Node
gone_node end file busy = record { end = end; file = file; busy = busy; place = Gone; coming = [] }

up_refused : (side : Side) (seen : Seen) (end : End) (file : File) (busy : Bool) (items rest : List Item) (count : ℕ) (far : Node) → let so_far = step side true seen items end
    in looked right_rules side seen (length items) (Refused count) (up_node end file busy (items ++ rest)) far
    ≡ record { near = gone_node (unlinked so_far.end) (file_of so_far.end) seen.busy; far = with_coming (take count so_far.given) far }
up_refused side seen end file busy items rest count far =
    let by_items : List Item → Pair = λ taken. record {
      near = gone_node (unlinked (step side true seen taken end).end) (file_after (map Gives (step side true seen taken end).given) (file_of (step side true seen taken end).end)) seen.busy;
      far = with_coming (take count (items_given (map Gives (step side true seen taken end).given))) far;
    }
    in let so_far : StepSoFar = step side true seen items end
    in ap by_items (take_front items rest)
    ∙ (ap (λ (f : File). record { near = gone_node (unlinked so_far.end) f seen.busy; far = with_coming (take count (items_given (map Gives so_far.given))) far }) (file_by so_far.given (file_of so_far.end))
    ∙ ap (λ (g : List Item). record { near = gone_node (unlinked so_far.end) (file_of so_far.end) seen.busy; far = with_coming (take count g) far }) (given_by so_far.given))

up_cut : (side : Side) (seen : Seen) (end : End) (file : File) (busy : Bool) (items rest : List Item) (far : Node) → let so_far = step side true seen items end
    in looked right_rules side seen (length items) (Cut 1) (up_node end file busy (items ++ rest)) far
    ≡ record { near = gone_node (made_anew (file_of so_far.end)) (file_of so_far.end) seen.busy; far = with_coming [] far }
up_cut side seen end file busy items rest far =
    let by_items : List Item → Pair = λ taken. record {
      near = gone_node (made_anew (file_of (step side true seen taken end).end)) (file_of (step side true seen taken end).end) seen.busy;
      far = with_coming [] far;
    }
    in ap by_items (take_front items rest)

-- not up: the step is one out of any connection, whatever the items
abbrev pub down_node : (end : End) (file : File) (busy : Bool) (place : Place) (coming : List Item) → Node
down_node end file busy place coming = record { end = end; file = file; busy = busy; place = place; coming = coming }

down_whole : (side : Side) (seen : Seen) (end : End) (file : File) (busy : Bool) (items : List Item) (place : Place) (coming : List Item) (far : Node) → is_up place ≡ false
    → let so_far = step side false seen items end
    in looked right_rules side seen (length items) Whole (down_node (unlinked end) file busy place coming) far
    ≡ record { near = down_node (unlinked so_far.end) (file_of so_far.end) seen.busy place coming; far = far }
down_whole side seen end file busy items place coming far down = by_place place down
  where
    by_step : Place → StepSoFar → Node → Pair
    by_step at so_far other = record { near = down_node so_far.end (file_of so_far.end) seen.busy at coming; far = other }

    so_far : StepSoFar
    so_far = step side false seen items end

    by_place : (at : Place) → is_up at ≡ false → looked right_rules side seen (length items) Whole (down_node (unlinked end) file busy at coming) far
        ≡ record { near = down_node (unlinked so_far.end) (file_of so_far.end) seen.busy at coming; far = far }
    by_place Before is = ap (λ (s : StepSoFar). by_step Before s (with_coming [] far)) (unlinked_step side seen items end) ∙ ap (by_step Before so_far) (none_is far)
    by_place Started is = ap (λ (s : StepSoFar). by_step Started s (with_coming [] far)) (unlinked_step side seen items end) ∙ ap (by_step Started so_far) (none_is far)
    by_place Up is = absurd (false≢true (sym is))
    by_place Gone is = ap (λ (s : StepSoFar). by_step Gone s (with_coming [] far)) (unlinked_step side seen items end) ∙ ap (by_step Gone so_far) (none_is far)

down_cut : (side : Side) (seen : Seen) (end : End) (file : File) (busy : Bool) (items : List Item) (place : Place) (coming : List Item) (far : Node) → is_up place ≡ false
    → let so_far = step side false seen items end
    in looked right_rules side seen (length items) (Cut 1) (down_node (unlinked end) file busy place coming) far
    ≡ record { near = down_node (made_anew (file_of so_far.end)) (file_of so_far.end) seen.busy (place_left place) (coming_left place coming); far = far }
down_cut side seen end file busy items place coming far down = by_place place down
  where
    by_step : Place → StepSoFar → Node → Pair
    by_step at so_far other =
        record { near = down_node (made_anew (file_of so_far.end)) (file_of so_far.end) seen.busy (place_left at) (coming_left at coming); far = other }

    so_far : StepSoFar
    so_far = step side false seen items end

    by_place : (at : Place) → is_up at ≡ false → looked right_rules side seen (length items) (Cut 1) (down_node (unlinked end) file busy at coming) far ≡ by_step at so_far far
    by_place Before is = ap (λ (s : StepSoFar). by_step Before s (with_coming [] far)) (unlinked_step side seen items end) ∙ ap (by_step Before so_far) (none_is far)
    by_place Started is = ap (λ (s : StepSoFar). by_step Started s (with_coming [] far)) (unlinked_step side seen items end) ∙ ap (by_step Started so_far) (none_is far)
    by_place Up is = absurd (false≢true (sym is))
    by_place Gone is = ap (λ (s : StepSoFar). by_step Gone s (with_coming [] far)) (unlinked_step side seen items end) ∙ ap (by_step Gone so_far) (none_is far)

-- it is cut off before its file is written: only its contacts are seen
cut_off : (side : Side) (seen : Seen) (node far : Node) → coming_left node.place (coming_rest node.place 0 node.coming) ≡ coming_left node.place node.coming
    → looked right_rules side seen 0 (Cut 0) node far
    ≡ record { near = down_node (made_anew node.file) node.file seen.busy (place_left node.place) (coming_left node.place node.coming); far = far }
cut_off side seen node far none =
    ap (λ (c : List Item). record { near = down_node (made_anew node.file) node.file seen.busy (place_left node.place) c; far = with_coming [] far }) none
    ∙ ap (λ (n : Node). record { near = down_node (made_anew node.file) node.file seen.busy (place_left node.place) (coming_left node.place node.coming); far = n }) (none_is far)

-- ---- the line

-- What an end has that looked: it has made this step, has heard this, and has said that.
abbrev pub looked_half : Seen → StepSoFar → (said heard : List LineMessage) → Half → Half
looked_half seen so_far said heard near =
    record near { end = so_far.end; file = file_of so_far.end; busy = seen.busy; said = said; heard = heard }

-- what is to come to an end whose link is up: these items, and then what it will not have heard then
joined_node : (side : Side) (near : Half) (said heard : List LineMessage) (items : List Item) → near.opened ≡ true → near.joined ≡ true → unheard said near.heard ≡ items ++ unheard said heard
    → node_from side true near said ≡ up_node near.end near.file near.busy (items ++ unheard said heard)
joined_node First near said heard items opened joined coming = rw (opened, joined) (ap (up_node near.end near.file near.busy) coming)
joined_node Second near said heard items opened joined coming = rw (opened, joined) (ap (up_node near.end near.file near.busy) coming)

looked_node : (side : Side) (near : Half) (seen : Seen) (so_far : StepSoFar) (own said heard : List LineMessage) → near.opened ≡ true → near.joined ≡ true
    → node_from side true (looked_half seen so_far own heard near) said ≡ up_node so_far.end (file_of so_far.end) seen.busy (unheard said heard)
looked_node First near seen so_far own said heard opened joined = rw (opened, joined) refl
looked_node Second near seen so_far own said heard opened joined = rw (opened, joined) refl

abbrev pub pair_line : Side → Pair → Line
pair_line First pair = record { first = pair.near; second = pair.far }
pair_line Second pair = record { first = pair.far; second = pair.near }

abbrev pub other_node : Side → (same : Bool) → Half → (said : List LineMessage) → Node
other_node First same far said = node_from Second same far said
other_node Second same far said = node_from First same far said

gives_other : (side : Side) (same : Bool) (half : Half) (items : List Item) (said more : List LineMessage) → HasMore said half.heard → items_of more ≡ items_of said ++ items
    → same ≡ true → with_coming items (other_node side same half said) ≡ other_node side same half more
gives_other First same half items said more has is together = gives_is Second same half items said more has is together
gives_other Second same half items said more has is together = gives_is First same half items said more has is together

line_is : (side : Side) (same : Bool) (near far : Half) → line_by side same near far ≡ pair_line side (record { near = node_from side same near far.said; far = other_node side same far near.said })
line_is First same near far = refl
line_is Second same near far = refl

side_is : (side : Side) (seen : Seen) (count : ℕ) (outcome : Outcome) (near far : Node)
    → after right_rules (Looks side seen count outcome) (pair_line side (record { near = near; far = far })) ≡ pair_line side (looked right_rules side seen count outcome near far)
side_is First seen count outcome near far = refl
side_is Second seen count outcome near far = refl

-- the line after a look, where the nodes after it are these
by_nodes : (side : Side) (same : Bool) (near next far : Half) (seen : Seen) (count : ℕ) (outcome : Outcome)
    → looked right_rules side seen count outcome (node_from side same near far.said) (other_node side same far near.said)
    ≡ record { near = node_from side same next far.said; far = other_node side same far next.said }
    → after right_rules (Looks side seen count outcome) (line_by side same near far) ≡ line_by side same next far
by_nodes side same near next far seen count outcome is =
    ap (after right_rules (Looks side seen count outcome)) (line_is side same near far)
    ∙ (side_is side seen count outcome (node_from side same near far.said) (other_node side same far near.said)
    ∙ (ap (pair_line side) is ∙ sym (line_is side same next far)))

both_are : {near next far other : Node} → near ≡ next → far ≡ other → ◌≡◌ {A = Pair} (record { near = near; far = far }) (record { near = next; far = other })
both_are {near} {next} {far} {other} first second =
    ap (λ (n : Node). record { near = n; far = far }) first ∙ ap (λ (f : Node). record { near = next; far = f }) second

-- An end that is joined looks, and all that it gives is accepted.
pub looks_joined : (side : Side) (near far : Half) (seen : Seen) (items : List Item) (said heard : List LineMessage) → near.opened ≡ true → near.joined ≡ true
    → unheard far.said near.heard ≡ items ++ unheard far.said heard → HasMore near.said far.heard → items_of said ≡ items_of near.said ++ (step side true seen items near.end).given
    → after right_rules (Looks side seen (length items) Whole) (line_by side true near far)
    ≡ line_by side true (looked_half seen (step side true seen items near.end) said heard near) far
looks_joined side near far seen items said heard opened joined coming has more =
    let so_far : StepSoFar = step side true seen items near.end
    in by_nodes side true near (looked_half seen so_far said heard near) far seen (length items) Whole
    (ap (λ (n : Node). looked right_rules side seen (length items) Whole n (other_node side true far near.said)) (joined_node side near far.said heard items opened joined coming)
    ∙ (up_whole side seen near.end near.file near.busy items (unheard far.said heard) (other_node side true far near.said)
    ∙ both_are (sym (looked_node side near seen so_far said far.said heard opened joined)) (gives_other side true far so_far.given near.said said has more refl)))

-- an end that has left after its look
abbrev pub left_half : Seen → End → File → (said heard : List LineMessage) → Half → Half
left_half seen end file said heard near = record near { opened = false; joined = false; end = end; file = file; busy = seen.busy; said = said; heard = heard }

gone_is : (side : Side) (near : Half) (seen : Seen) (end : End) (file : File) (own said heard : List LineMessage)
    → node_from side true (left_half seen end file own heard near) said ≡ gone_node (unlinked end) file seen.busy
gone_is First near seen end file own said heard = refl
gone_is Second near seen end file own said heard = refl

-- So many are accepted, and then its link is closed.
pub looks_refused : (side : Side) (near far : Half) (seen : Seen) (items : List Item) (count : ℕ) (said heard later : List LineMessage) → near.opened ≡ true → near.joined ≡ true
    → unheard far.said near.heard ≡ items ++ unheard far.said heard → HasMore near.said far.heard
    → items_of said ≡ items_of near.said ++ take count (step side true seen items near.end).given
    → let so_far = step side true seen items near.end
    in after right_rules (Looks side seen (length items) (Refused count)) (line_by side true near far) ≡ line_by side true (left_half seen so_far.end (file_of so_far.end) said later near) far
looks_refused side near far seen items count said heard later opened joined coming has more =
    let so_far : StepSoFar = step side true seen items near.end
    in by_nodes side true near (left_half seen so_far.end (file_of so_far.end) said later near) far seen (length items) (Refused count)
    (ap (λ (n : Node). looked right_rules side seen (length items) (Refused count) n (other_node side true far near.said)) (joined_node side near far.said heard items opened joined coming)
    ∙ (up_refused side seen near.end near.file near.busy items (unheard far.said heard) count (other_node side true far near.said)
    ∙ both_are (sym (gone_is side near seen so_far.end (file_of so_far.end) said far.said later)) (gives_other side true far (take count so_far.given) near.said said has more refl)))

made_gone : (side : Side) (near : Half) (seen : Seen) (file : File) (own said heard : List LineMessage)
    → node_from side true (left_half seen (made_anew file) file own heard near) said ≡ gone_node (made_anew file) file seen.busy
made_gone First near seen file own said heard = refl
made_gone Second near seen file own said heard = refl

-- Its file is written, and then it is cut off.
pub looks_cut : (side : Side) (near far : Half) (seen : Seen) (items : List Item) (heard later : List LineMessage) → near.opened ≡ true → near.joined ≡ true
    → unheard far.said near.heard ≡ items ++ unheard far.said heard
    → let so_far = step side true seen items near.end
    in after right_rules (Looks side seen (length items) (Cut 1)) (line_by side true near far)
    ≡ line_by side true (left_half seen (made_anew (file_of so_far.end)) (file_of so_far.end) near.said later near) far
looks_cut side near far seen items heard later opened joined coming =
    let so_far : StepSoFar = step side true seen items near.end
    in by_nodes side true near (left_half seen (made_anew (file_of so_far.end)) (file_of so_far.end) near.said later near) far seen (length items) (Cut 1)
    (ap (λ (n : Node). looked right_rules side seen (length items) (Cut 1) n (other_node side true far near.said)) (joined_node side near far.said heard items opened joined coming)
    ∙ (up_cut side seen near.end near.file near.busy items (unheard far.said heard) (other_node side true far near.said)
    ∙ both_are (sym (made_gone side near seen (file_of so_far.end) near.said far.said later)) (none_is (other_node side true far near.said))))

-- ---- an end that isn't joined

-- its place isn't up
down_place : (side : Side) (opened same : Bool) → is_up (place_of side opened false same) ≡ false
down_place First true same = refl
down_place First false same = refl
down_place Second true same = refl
down_place Second false true = refl
down_place Second false false = refl

down_is : (side : Side) (same : Bool) (near : Half) (said : List LineMessage) → near.joined ≡ false
    → node_from side same near said ≡ down_node (unlinked near.end) near.file near.busy (place_of side near.opened false same) (cond near.opened (cond same (unheard said near.heard) []) [])
down_is First same near said down = rw down refl
down_is Second same near said down = rw down refl

pub looks_unjoined : (side : Side) (same : Bool) (near far : Half) (seen : Seen) (items : List Item) → near.joined ≡ false
    → after right_rules (Looks side seen (length items) Whole) (line_by side same near far)
    ≡ line_by side same (looked_half seen (step side false seen items near.end) near.said near.heard near) far
looks_unjoined side same near far seen items down =
    let so_far : StepSoFar = step side false seen items near.end
    in let next : Half = looked_half seen so_far near.said near.heard near
    in let coming : List Item = cond near.opened (cond same (unheard far.said near.heard) []) []
    in by_nodes side same near next far seen (length items) Whole
    (ap (λ (n : Node). looked right_rules side seen (length items) Whole n (other_node side same far near.said)) (down_is side same near far.said down)
    ∙ (down_whole side seen near.end near.file near.busy items (place_of side near.opened false same) coming (other_node side same far near.said) (down_place side near.opened same)
    ∙ both_are (sym (down_is side same next far.said down)) refl))

-- where it has left then
gone_place : (side : Side) (same : Bool) (near : Half) (seen : Seen) (file : File) (own said later : List LineMessage) → (near.opened ≡ true → IsThere side same)
    → node_from side same (left_half seen (made_anew file) file own later near) said
    ≡ down_node (made_anew file) file seen.busy (place_left (place_of side near.opened near.joined same))
    (coming_left (place_of side near.opened near.joined same) (cond near.opened (cond same (unheard said near.heard) []) []))
gone_place side same near seen file own said later there = by_place side near.opened near.joined same there
  where
    by_place : (side : Side) (opened joined same : Bool) → (opened ≡ true → IsThere side same)
        → node_from side same (left_half seen (made_anew file) file own later near) said
        ≡ down_node (made_anew file) file seen.busy (place_left (place_of side opened joined same)) (coming_left (place_of side opened joined same) (cond opened (cond same (unheard said near.heard) []) []))
    by_place First true true same there = refl
    by_place First true false same there = refl
    by_place First false joined same there = refl
    by_place Second true true true there = refl
    by_place Second true false true there = refl
    by_place Second true joined false there = absurd (false≢true (there refl))
    by_place Second false joined true there = refl
    by_place Second false joined false there = refl

pub cuts_unjoined : (side : Side) (same : Bool) (near far : Half) (seen : Seen) (items : List Item) (later : List LineMessage) → near.joined ≡ false → (near.opened ≡ true → IsThere side same)
    → let so_far = step side false seen items near.end
    in after right_rules (Looks side seen (length items) (Cut 1)) (line_by side same near far)
    ≡ line_by side same (left_half seen (made_anew (file_of so_far.end)) (file_of so_far.end) near.said later near) far
cuts_unjoined side same near far seen items later down there =
    let so_far : StepSoFar = step side false seen items near.end
    in let coming : List Item = cond near.opened (cond same (unheard far.said near.heard) []) []
    in by_nodes side same near (left_half seen (made_anew (file_of so_far.end)) (file_of so_far.end) near.said later near) far seen (length items) (Cut 1)
    (ap (λ (n : Node). looked right_rules side seen (length items) (Cut 1) n (other_node side same far near.said)) (down_is side same near far.said down)
    ∙ (down_cut side seen near.end near.file near.busy items (place_of side near.opened false same) coming (other_node side same far near.said) (down_place side near.opened same)
    ∙ both_are
    (ap (λ (j : Bool). down_node (made_anew (file_of so_far.end)) (file_of so_far.end) seen.busy (place_left (place_of side near.opened j same)) (coming_left (place_of side near.opened j same) coming)) (sym down)
    ∙ sym (gone_place side same near seen (file_of so_far.end) near.said far.said later there)) refl))

-- ---- an end that is cut off before its file is written, or of which no process runs

pub ends_cut : (side : Side) (same : Bool) (near far : Half) (seen : Seen) (later : List LineMessage) → (near.opened ≡ true → IsThere side same)
    → after right_rules (Looks side seen 0 (Cut 0)) (line_by side same near far) ≡ line_by side same (left_half seen (made_anew near.file) near.file near.said later near) far
ends_cut side same near far seen later there =
    let coming : List Item = cond near.opened (cond same (unheard far.said near.heard) []) []
    in by_nodes side same near (left_half seen (made_anew near.file) near.file near.said later near) far seen 0 (Cut 0)
    (cut_off side seen (node_from side same near far.said) (other_node side same far near.said) (none_rest side near.opened near.joined same)
    ∙ both_are (sym (gone_place side same near seen near.file near.said far.said later there)) refl)
  where
    none_rest : (side : Side) (opened joined same : Bool)
        → coming_left (place_of side opened joined same) (coming_rest (place_of side opened joined same) 0 (cond opened (cond same (unheard far.said near.heard) []) []))
        ≡ coming_left (place_of side opened joined same) (cond opened (cond same (unheard far.said near.heard) []) [])
    none_rest First true true same = refl
    none_rest First true false same = refl
    none_rest First false joined same = refl
    none_rest Second true true same = refl
    none_rest Second true false same = refl
    none_rest Second false joined true = refl
    none_rest Second false joined false = refl
