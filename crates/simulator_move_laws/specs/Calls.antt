-- The calls that a step makes of one link, and what its client gave and took in its last connection after them.
use Rattle.std.specs.Prelude.{ℕ, ◌||◌, Bool, false, List, [], ◌∷◌, ◌++◌, is_ok, if◌then◌else◌}
use Rattle.ixl_spec.specs.rasta_core.State.{LinkState}
use Rattle.ixl_spec.specs.rasta_core.Calls.{answer_to_send, opens, receiving}
use Rattle.ixl_spec.specs.ixl_client.ClientSoFar.{LinkCall, Opens, Ticks, Closes, Sends, Receives, call_made}
use Rattle.ixl_spec.specs.StepSoFar.{Node, Signal, Point, Detector}
use Rattle.simulator_machine.specs.Lists.{is_same}

-- the items that a client gave in its last connection, and those that it took there, oldest first
pub record Items : Type 0 where
  pub given : List (List ℕ)
  pub taken : List (List ℕ)

abbrev pub no_items : Items
no_items = record { given = []; taken = [] }

-- after a call; a new connection has none yet
unfoldable pub items_by : ℕ → LinkCall → LinkState → Items → Items
items_by now Opens link items = if opens now link then no_items else items
items_by now Ticks link items = items
items_by now (Closes why) link items = items
items_by now (Sends item) link items =
    if is_ok (answer_to_send now link) then record items { given = items.given ++ item ∷ [] } else items
items_by now (Receives bytes) link items = record items { taken = items.taken ++ (receiving now bytes link).items }

-- after a list of calls, one after another
unfoldable pub items_after : ℕ → List LinkCall → LinkState → Items → Items
items_after now [] link items = items
items_after now (first ∷ others) link items = items_after now others (call_made now first link).link (items_by now first link items)

-- a call begins a connection, and so does one of a list
abbrev pub begins : ℕ → LinkCall → LinkState → Bool
begins now Opens link = opens now link
begins now Ticks link = false
begins now (Closes why) link = false
begins now (Sends item) link = false
begins now (Receives bytes) link = false

unfoldable pub has_begun : ℕ → List LinkCall → LinkState → Bool
has_begun now [] link = false
has_begun now (first ∷ others) link = begins now first link || has_begun now others (call_made now first link).link

abbrev pub is_node : Node → Node → Bool
is_node (Signal place) (Signal other) = is_same place other
is_node (Point place) (Point other) = is_same place other
is_node (Detector place) (Detector other) = is_same place other
is_node _ _ = false

-- of the calls of a step those at one node's link
unfoldable pub calls_at : Node → List (Node × LinkCall) → List LinkCall
calls_at node [] = []
calls_at node (first ∷ others) = if is_node node first.0 then first.1 ∷ calls_at node others else calls_at node others
