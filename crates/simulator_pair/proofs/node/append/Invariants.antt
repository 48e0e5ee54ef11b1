use Rattle.std.proofs.Common.{◌≡◌, ◌+◌, ◌++◌, take}
use Rattle.std.specs.Vec.{vec_len, vec_capacity}
use Rattle.simulator_pair.proofs.node.append.Given as goal

abbrev pub invariant-loop-item : goal.invariant-loop-item
invariant-loop-item l =
    (l.list.items ≡ l.initial.list.items ++ take l.item-index l.items)
    × (vec_len l.list ≡ vec_len l.initial.list + l.item-index)
    × (vec_capacity l.list ≡ vec_capacity l.initial.list)
