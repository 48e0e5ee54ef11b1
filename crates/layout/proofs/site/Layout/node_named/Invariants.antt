use Rattle.std.proofs.Common.{◌≡◌, ◌<◌, ℕ, [], false, get_or}
use Rattle.std.specs.Str.{bytes_eq}
use Rattle.layout.specs.Nodes.{node_names}
use Rattle.layout.proofs.site.Layout.node_named.Given as goal

-- no node so far has the name
abbrev pub invariant-loop-number : goal.invariant-loop-number
invariant-loop-number l = (k : ℕ) → k < l.number → bytes_eq (get_or (node_names l.self) k []) l.word ≡ false
