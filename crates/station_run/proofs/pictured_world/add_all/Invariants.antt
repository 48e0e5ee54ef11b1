use Rattle.std.proofs.Common.{◌≡◌, ◌++◌, take}
use Rattle.std.specs.List.{flat_map}
use Rattle.station_run.specs.Panel.{all_of}
use Rattle.station_record.specs.replay.World.{played}
use Rattle.station_run.proofs.pictured_world.add_all.Given as goal

abbrev pub invariant-loop-thing : goal.invariant-loop-thing
invariant-loop-thing l = l.lines.items ≡ l.initial.lines.items ++ flat_map (all_of (played l.world)) (take l.thing-index l.things)
