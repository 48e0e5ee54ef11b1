-- What contracts see of the ends of a pair.
use Rattle.std.specs.Prelude.{◌≡◌, ℕ, ◌+◌, ◌≤◌, ◌&&◌, ◌||◌, ◌++◌, not, Bool, List, Option, is_some, if◌then◌else◌}
use Rattle.rasta_core.specs.State.{is_open}
use Rattle.std.specs.Vec.{vec_len, vec_capacity}
use Rattle.rasta_core.specs.Ends.{EndState, newer, kept, reading_of}
use Rattle.simulator_pair.specs.declared.node.Node.{Node}

unfoldable pub seen_end : Node → EndState
seen_end node = record {
  link = node.link;
  clock = node.clock;
  connection = node.connection;
  left = node.left;
  given = node.given.items;
  taken = node.taken.items;
}

-- an end whose link was open or not before a step, and that enters a connection in it or not
unfoldable pub noted : Bool → Option ℕ → ℕ → EndState → EndState
noted was_open enters moment end = record end {
  connection = newer enters end.connection;
  left = if (was_open || is_some enters) && not (is_open end.link.phase) then moment else end.left;
  given = kept enters end.given;
  taken = kept enters end.taken;
}

-- and that accepts and takes these items in it
unfoldable pub concluded : Bool → Option ℕ → List (List ℕ) → List (List ℕ) → ℕ → EndState → EndState
concluded was_open enters given taken moment end =
    let after = noted was_open enters moment end
    in record after { given = after.given ++ given; taken = after.taken ++ taken }

-- the link was last called at the end's clock
abbrev pub IsAtClock : Node → Type 0
IsAtClock node = node.link.clock ≡ reading_of node.clock

-- the lists of an end have room for so many more items each
abbrev pub HasLists : ℕ → Node → Type 0
HasLists items node = (vec_len node.given + items ≤ vec_capacity node.given) × (vec_len node.taken + items ≤ vec_capacity node.taken)

-- the lists of an end keep their memory, and gain at most so many items each
pub record KeepsLists (items : ℕ) (old new : Node) : Type 0 where
  pub given_memory : vec_capacity old.given ≤ vec_capacity new.given
  pub taken_memory : vec_capacity old.taken ≤ vec_capacity new.taken
  pub given_more : vec_len new.given ≤ vec_len old.given + items
  pub taken_more : vec_len new.taken ≤ vec_len old.taken + items
