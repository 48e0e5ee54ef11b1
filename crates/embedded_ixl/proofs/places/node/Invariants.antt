use Rattle.std.proofs.Common.{◌≡◌, ◌<◌, ℕ, [], false, get_or}
use Rattle.std.specs.Str.{bytes_eq}
use Rattle.ixl_state.specs.layout.Nodes.{node_names}
use Rattle.embedded_ixl.proofs.places.node.Given as goal

-- no node so far has the name
abbrev pub invariant-loop-number : goal.invariant-loop-number
invariant-loop-number l = (k : ℕ) → k < l.number → bytes_eq (get_or (node_names l.fn.layout) k []) l.fn.name ≡ false
