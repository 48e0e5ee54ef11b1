use Rattle.std.proofs.Common.{◌≡◌, ◌-◌, ◌++◌}
use Rattle.node_kinds.specs.Interlockings.{all_of, count, each, known_at}
use Rattle.node_kinds.proofs.knowledge.add_each.Given as goal

-- those so far, and after them those that are left
abbrev pub invariant-loop-place : goal.invariant-loop-place
invariant-loop-place l =
    let state = l.ixl.state in
    l.all.items ++ each (known_at state.sited.table l.counts l.now state.ixl l.thing) l.place (count state.sited.site state.ixl l.thing - l.place)
    ≡ l.initial.all.items ++ all_of state.sited.site state.sited.table l.counts l.now state.ixl l.thing
