-- What is known of a line's link: where its ends are in the connection that the first end began last, and what may
-- still be taken there. It is what the theorem of the link says: an end takes in order and once each what its partner
-- gave in its own connection, an end that left a connection takes nothing more of it and never comes back, and while
-- the second end is in a connection no other begins.
use Rattle.std.specs.Prelude.{Bool, true, false, ℕ, List, [], ◌++◌, take, drop}
use Rattle.line_laws.specs.declared.words.Item.{Item}

-- Where an end is: it hasn't entered the connection yet (the second end alone); it is in it, and the link isn't up
-- there yet, or is up; or it has left it.
pub data Place : Type 0 where
  Before Started Up Gone : Place

abbrev pub is_up : Place → Bool
is_up Before = false
is_up Started = false
is_up Up = true
is_up Gone = false

-- in the connection
abbrev pub is_inside : Place → Bool
is_inside Before = false
is_inside Started = true
is_inside Up = true
is_inside Gone = false

abbrev pub is_gone : Place → Bool
is_gone Before = false
is_gone Started = false
is_gone Up = false
is_gone Gone = true

-- where an end is when it left, or was made anew: it may still enter a connection that it wasn't in
abbrev pub place_left : Place → Place
place_left Before = Before
place_left Started = Gone
place_left Up = Gone
place_left Gone = Gone

-- ---- the items that may still be taken by an end, oldest first

-- when it left
abbrev pub coming_left : Place → List Item → List Item
coming_left Before coming = coming
coming_left Started coming = []
coming_left Up coming = []
coming_left Gone coming = []

-- when more are given to it
abbrev pub coming_more : Place → List Item → List Item → List Item
coming_more Before items coming = coming ++ items
coming_more Started items coming = coming ++ items
coming_more Up items coming = coming ++ items
coming_more Gone items coming = coming

-- An end takes the next items only where its link is up: those that it takes, and those that are left.
abbrev pub coming_taken : Place → ℕ → List Item → List Item
coming_taken Before count coming = []
coming_taken Started count coming = []
coming_taken Up count coming = take count coming
coming_taken Gone count coming = []

abbrev pub coming_rest : Place → ℕ → List Item → List Item
coming_rest Before count coming = coming
coming_rest Started count coming = coming
coming_rest Up count coming = drop count coming
coming_rest Gone count coming = coming
