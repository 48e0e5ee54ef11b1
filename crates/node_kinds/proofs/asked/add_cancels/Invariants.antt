use Rattle.std.proofs.Common.{◌≡◌, ◌++◌, drop}
use Rattle.node_kinds.specs.Interlockings.{cancel_where_set, cancels, of_each}
use Rattle.node_kinds.proofs.asked.add_cancels.Given as goal

-- the cancels so far, and after them those of the routes that are left
abbrev pub invariant-loop-place : goal.invariant-loop-place
invariant-loop-place l =
    l.left.items ++ of_each cancel_where_set l.place (drop l.place l.ixl.state.ixl.routes) ≡ l.initial.left.items ++ cancels l.ixl.state.ixl.routes
