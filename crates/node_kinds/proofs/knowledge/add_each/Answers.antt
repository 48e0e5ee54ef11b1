use Rattle.std.proofs.Common.{◌++◌, arith}
use Rattle.node_kinds.specs.Interlockings.{all_of, count, known_at}
use Rattle.node_kinds.proofs.Lists.{one_added}
use Rattle.node_kinds.proofs.knowledge.add_each.Goals as goal

pub loop-place-preserved : goal.loop-place-preserved
loop-place-preserved c =
    let state = c.args.ixl.now.state in
    let all = c.count-place-end.ensures in
    one_added (known_at state.sited.table c.args.counts c.args.now state.ixl c.args.thing) c.loop-place.place (count state.sited.site state.ixl c.args.thing) c.loop-place.all.items c.push.new.self.items
    (c.args.all.now.items ++ all_of state.sited.site state.sited.table c.args.counts c.args.now state.ixl c.args.thing) c.known_at.result (omega (arith, c.loop-place-test.true, all)) c.known_at.ensures c.in_ok-push.ensures.items c.loop-place.invariant
