use Rattle.std.proofs.Common.{refl}
use Rattle.replay.specs.World.{played}
use Rattle.station_record.proofs.Behind.{leads, led}
use Rattle.station_record.proofs.replayed.apply_all.Goals as goal

pub loop-entry-init : goal.loop-entry-init
loop-entry-init c = refl

pub loop-entry-preserved : goal.loop-entry-preserved
loop-entry-preserved c =
    leads (played c.args.world.now) c.args.entries.now c.loop-entry.entry-index c.entry-item.result (played c.loop-entry.world) (played c.try_event.new.world)
    c.loop-entry-test.true c.entry-item.is c.in_ok-try_event.ensures.world c.loop-entry.invariant

pub returns : goal.returns
returns c = led (played c.args.world.now) c.args.entries.now c.loop-entry.entry-index (played c.loop-entry.world) c.loop-entry-test.false c.loop-entry.invariant
