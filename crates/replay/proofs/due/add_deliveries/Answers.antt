use Rattle.replay.proofs.Rounds.{deliveries-add, deliveries-all}
use Rattle.replay.specs.World.{arrival_in, played}
use Rattle.replay.proofs.due.add_deliveries.Goals as goal

pub loop-place-preserved : goal.loop-place-preserved
loop-place-preserved c =
    let arrival = arrival_in (played c.args.world.now)
    in deliveries-add arrival c.loop-place.place c.args.end c.loop-place.due.items c.add_delivery.new.due.items _ c.loop-place-test.true c.in_ok-add_delivery.ensures c.loop-place.invariant

pub returns : goal.returns
returns c =
    let arrival = arrival_in (played c.args.world.now)
    in deliveries-all arrival c.loop-place.place c.args.end c.loop-place.due.items _ c.loop-place-test.false c.loop-place.invariant
