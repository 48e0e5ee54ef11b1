use Rattle.std.proofs.Common.{◌++◌, arith}
use Rattle.station_run.specs.Panel.{all_of, count, line_at}
use Rattle.station_record.specs.replay.World.{played}
use Rattle.station_run.proofs.Seen.{one_added}
use Rattle.station_run.proofs.pictured_world.add_each.Goals as goal

pub loop-place-preserved : goal.loop-place-preserved
loop-place-preserved c =
    let world = c.args.world.now in
    let all = c.count-place-end.ensures in
    one_added (line_at (played world) c.args.thing) c.loop-place.place (count world.sited.site c.args.thing) c.loop-place.lines.items c.push.new.self.items
    (c.args.lines.now.items ++ all_of (played world) c.args.thing) c.line_at.result (omega (arith, c.loop-place-test.true, all)) c.line_at.ensures c.in_ok-push.ensures.items c.loop-place.invariant
