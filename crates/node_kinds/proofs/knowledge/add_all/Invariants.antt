use Rattle.std.proofs.Common.{◌≡◌, ◌++◌, take}
use Rattle.std.specs.List.{flat_map}
use Rattle.node_kinds.specs.Interlockings.{all_of}
use Rattle.node_kinds.proofs.knowledge.add_all.Given as goal

abbrev pub invariant-loop-thing : goal.invariant-loop-thing
invariant-loop-thing l =
    let state = l.ixl.state in
    l.all.items ≡ l.initial.all.items ++ flat_map (all_of state.sited.site state.sited.table l.counts l.now state.ixl) (take l.thing-index l.things)
