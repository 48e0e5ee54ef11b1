-- What an interlocking's node counts of what comes to it, by its layout's links: the answer of each step, what its links took, and how
-- many of them are ready. An operator who asks for the numbers is told a line for each.
use Rattle.std.specs.Prelude.{ℕ, suc, Bool, true, false, List, [], ◌∷◌, codes, map, Option, Some, None, slice_get}
use Rattle.std.specs.Str.{bytes_eq}
use Rattle.simulator_spec.specs.ixl_spec.Commands.{refusal_number}
use Rattle.simulator_spec.specs.ixl_spec.Step as ixl
use Rattle.node_drive.specs.node_lines.declared.operator_line.Known.{Known}
use Rattle.node_drive.specs.node_lines.declared.operator_line.Known.TheVariants.{Link}
use Rattle.node_drive.specs.node_lines.declared.operator_line.LinkState.TheVariants.{Ready, Lost}
use Rattle.run_numbers.specs.Labels.{fate, is_taken, refused}
use Rattle.run_numbers.specs.Lines.{number_text}
use Rattle.run_numbers.specs.Numbers.{NumbersState, counted, counted_if, put, value_at, with_taken}
use Rattle.run_numbers.specs.Rows.{node_rows}
use Rattle.run_numbers.specs.declared.labels.Outcome.TheVariants.{Accepted}
use Rattle.run_numbers.specs.declared.row.Row.{Row}
use Rattle.run_numbers.specs.declared.row.Row.TheVariants.{Commands, Datagrams, LinksLost, LinksUp}

-- ---- the answer of a step

-- a datagram by the verdict of its link, and a command by its answer
abbrev pub answered : ixl.Reply → NumbersState → NumbersState
answered ixl.Ticked numbers = numbers
answered (ixl.Received verdict) numbers = counted (Datagrams (fate verdict)) numbers
answered ixl.Accepted numbers = counted (Commands Accepted) numbers
answered (ixl.Refused refusal) numbers = counted (Commands (refused (refusal_number refusal))) numbers

abbrev pub taken_if : Bool → List ℕ → NumbersState → NumbersState
taken_if true bytes numbers = with_taken bytes numbers
taken_if false bytes numbers = numbers

-- what a link took
abbrev pub taken : ixl.Input → ixl.Reply → NumbersState → NumbersState
taken (ixl.Datagram bytes) (ixl.Received verdict) numbers = taken_if (is_taken (fate verdict)) bytes numbers
taken input reply numbers = numbers

-- ---- links

-- a link that was told as ready is lost
abbrev pub is_loss : Option Known → Option Known → Bool
is_loss (Some (Link node Ready)) (Some (Link other Lost)) = true
is_loss last one = false

abbrev pub is_up : Option Known → Bool
is_up (Some (Link node Ready)) = true
is_up one = false

-- a thing, of which this was told last
abbrev pub with_thing : Option Known → Option Known → NumbersState → NumbersState
with_thing last one numbers = counted_if (is_up one) LinksUp (counted_if (is_loss last one) LinksLost numbers)

-- what was told of the thing at a place; nothing where nothing was told at all
abbrev pub last_of : Option (Option Known) → Option Known
last_of None = None
last_of (Some last) = last

-- all that is known, from a place on
abbrev pub with_things : (told : List (Option Known)) → ℕ → List (Option Known) → NumbersState → NumbersState
with_things told place [] numbers = numbers
with_things told place (one ∷ more) numbers = with_things told (suc place) more (with_thing (last_of (slice_get told place)) one numbers)

abbrev pub with_links : (told all : List (Option Known)) → NumbersState → NumbersState
with_links told all numbers = with_things told 0 all (put LinksUp 0 numbers)

-- ---- a step

-- after a step with this answer, by what was told before it and what is known after it
abbrev pub numbers_after : ixl.Input → ixl.Reply → (told all : List (Option Known)) → NumbersState → NumbersState
numbers_after input reply told all numbers = with_links told all (taken input reply (answered reply numbers))

-- ---- the question

abbrev pub is_question : List ℕ → Bool
is_question text = bytes_eq text (codes "numbers")

abbrev pub line_of : NumbersState → Row → List ℕ
line_of numbers row = number_text row (value_at row numbers)

-- a line for each number
abbrev pub number_lines : NumbersState → List (List ℕ)
number_lines numbers = map (line_of numbers) node_rows
