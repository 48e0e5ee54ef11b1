-- A line: its two ends with their files, contacts and links, and what can happen to it.
use Rattle.std.specs.Prelude.{Bool, not, ◌&&◌, if◌then◌else◌, ℕ, List, [], ◌∷◌, map, take}
use Rattle.line_laws.specs.declared.words.Side.{Side}
use Rattle.line_laws.specs.declared.words.Side.TheVariants.{First, Second}
use Rattle.line_laws.specs.declared.words.Item.{Item}
use Rattle.line_laws.specs.End.{File, End, Seen, file_of, made_anew, unlinked}
use Rattle.line_laws.specs.Step.{StepSoFar, step}
use Rattle.line_laws.specs.Link.{Place, Before, Started, Up, Gone, is_up, is_inside, is_gone, place_left, coming_left, coming_more, coming_taken, coming_rest}

pub record Node : Type 0 where
  pub end : End
  -- what is on disk
  pub file : File
  -- a contact of its part of the line is occupied
  pub busy : Bool
  -- where it is in the connection, and what it may still take there
  pub place : Place
  pub coming : List Item

pub record Line : Type 0 where
  pub first : Node
  pub second : Node

abbrev pub node : Side → Line → Node
node First line = line.first
node Second line = line.second

-- ---- what a step does outside the end, in its order

pub data Effect : Type 0 where
  -- its file is written
  Writes : File → Effect
  -- an item is given to the link
  Gives : Item → Effect

-- the file is written before anything is given
abbrev pub effects : File → List Item → List Effect
effects file items = Writes file ∷ map Gives items

-- the file after these, and the items given
abbrev pub file_after : List Effect → File → File
file_after [] file = file
file_after (Writes new ∷ effects) file = file_after effects new
file_after (Gives item ∷ effects) file = file_after effects file

abbrev pub items_given : List Effect → List Item
items_given [] = []
items_given (Writes file ∷ effects) = items_given effects
items_given (Gives item ∷ effects) = item ∷ items_given effects

-- ---- moves

-- How a look of an end comes out.
pub data Outcome : Type 0 where
  -- all is done
  Whole : Outcome
  -- its link takes so many of the items, refuses the next, and leaves the connection
  Refused : (count : ℕ) → Outcome
  -- it is cut off after so many effects, and made anew from its file
  Cut : (count : ℕ) → Outcome

pub data Move : Type 0 where
  -- the first end begins a connection, the second enters it
  Opens : Move
  Enters : Move
  -- the link of an end comes up, and leaves the connection
  ComesUp : Side → Move
  Leaves : Side → Move
  -- An end looks: it sees its contacts, drive and wish, takes the next items, so many at most, and makes a step. Its
  -- contacts change by nothing else: each change is looked at.
  Looks : Side → Seen → (count : ℕ) → Outcome → Move

-- The rules of a line's ends: their step, the order of its effects, and how an end is made anew from its file. The old
-- end is named for wrong rules alone.
pub record Rules : Type 0 where
  pub step : Side → Bool → Seen → List Item → End → StepSoFar
  pub effects : File → List Item → List Effect
  pub made_anew : File → End → End

abbrev pub right_rules : Rules
right_rules = record { step = step; effects = effects; made_anew = λ file end. made_anew file }

-- ---- what a move leaves

-- an end when its link has left the connection
abbrev pub left : Node → Node
left node = record node { end = unlinked node.end; place = place_left node.place; coming = coming_left node.place node.coming }

-- and when it was made anew, where this was the end before it was cut off
abbrev pub restarted : Rules → End → Node → Node
restarted rules old node = record node { end = rules.made_anew node.file old; place = place_left node.place; coming = coming_left node.place node.coming }

abbrev pub with_coming : List Item → Node → Node
with_coming items node = record node { coming = coming_more node.place items node.coming }

-- an end that looks, and its partner
pub record Pair : Type 0 where
  pub near : Node
  pub far : Node

-- the near end when it has made a step, and has had these effects
abbrev pub stepped : Seen → ℕ → End → List Effect → Node → Node
stepped seen count end effects node =
    record { end = end; file = file_after effects node.file; busy = seen.busy; place = node.place; coming = coming_rest node.place count node.coming }

abbrev pub looked_so : Rules → Seen → ℕ → Outcome → StepSoFar → Node → Node → Pair
looked_so rules seen count Whole so_far near far =
    let all = rules.effects (file_of so_far.end) so_far.given
    in record { near = stepped seen count so_far.end all near; far = with_coming (items_given all) far }
looked_so rules seen count (Refused items) so_far near far =
    let all = rules.effects (file_of so_far.end) so_far.given
    in record { near = left (stepped seen count so_far.end all near); far = with_coming (take items (items_given all)) far }
looked_so rules seen count (Cut effects) so_far near far =
    let done = take effects (rules.effects (file_of so_far.end) so_far.given)
    in record { near = restarted rules near.end (stepped seen count so_far.end done near); far = with_coming (items_given done) far }

abbrev pub looked : Rules → Side → Seen → ℕ → Outcome → Node → Node → Pair
looked rules side seen count outcome near far =
    looked_so rules seen count outcome (rules.step side (is_up near.place) seen (coming_taken near.place count near.coming) near.end) near far

abbrev pub side_looked : Rules → Side → Seen → ℕ → Outcome → Line → Line
side_looked rules First seen count outcome line =
    let pair = looked rules First seen count outcome line.first line.second in record { first = pair.near; second = pair.far }
side_looked rules Second seen count outcome line =
    let pair = looked rules Second seen count outcome line.second line.first in record { first = pair.far; second = pair.near }

abbrev pub with_node : Side → Node → Line → Line
with_node First node line = record line { first = node }
with_node Second node line = record line { second = node }

-- a connection begins while neither end is in another
abbrev pub opened : Line → Line
opened line =
    if is_gone line.first.place && not (is_inside line.second.place)
    then record { first = record line.first { place = Started; coming = [] }; second = record line.second { place = Before; coming = [] } }
    else line

abbrev pub entered : Place → Place
entered Before = Started
entered Started = Started
entered Up = Up
entered Gone = Gone

abbrev pub come_up : Place → Place
come_up Before = Before
come_up Started = Up
come_up Up = Up
come_up Gone = Gone

-- The line after a move. One that can't be made changes nothing.
abbrev pub after : Rules → Move → Line → Line
after rules Opens line = opened line
after rules Enters line = record line { second = record line.second { place = entered line.second.place } }
after rules (ComesUp side) line = with_node side (record (node side line) { place = come_up (node side line).place }) line
after rules (Leaves side) line = with_node side (left (node side line)) line
after rules (Looks side seen count outcome) line = side_looked rules side seen count outcome line
