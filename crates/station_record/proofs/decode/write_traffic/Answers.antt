use Rattle.replay.specs.World.{played}
use Rattle.station_record.proofs.Lines.{told_of_first}
use Rattle.station_record.proofs.decode.write_traffic.Goals as goal

pub returns-clause-done : goal.returns-clause-done
returns-clause-done g c =
    told_of_first c.args.table (played c.in_ok-world.world) c.args.entries.now (g.W.Write.contents c.args.out.now) (g.W.Write.contents c.write_events-written.new.out) c.write_events-written.result
    c.in_ok-world.ensures c.write_events-written.ensures.done
