use Rattle.std.proofs.Common.{◌≡◌, ◌++◌, drop, map}
use Rattle.replay.specs.World.{played}
use Rattle.station_record.specs.Changes.{watch_of}
use Rattle.station_record.specs.declared.watch.Watch.{Watch}
use Rattle.station_record.proofs.Looks.{Looked}
use Rattle.station_record.proofs.story.look_at_all.Given as goal

abbrev pub invariant-loop-watch : goal.invariant-loop-watch
invariant-loop-watch l =
    let view : Watch → Watch = λ watch. watch_of (played l.world) watch.lane in record {
      looked : Looked l.line (played l.world) l.watches l.watch-index l.fn.changes.items l.changes.items;
      next : l.next.items ++ map view (drop l.watch-index l.watches) ≡ map view l.watches;
    }
