use Rattle.std.proofs.Common.{◌≡◌, map, take}
use Rattle.replay.specs.World.{played}
use Rattle.station_record.specs.Changes.{watch_of}
use Rattle.station_record.proofs.story.first_watches.Given as goal

abbrev pub invariant-loop-lane : goal.invariant-loop-lane
invariant-loop-lane l = l.watches.items ≡ map (watch_of (played l.world)) (take l.lane-index l.lanes)
