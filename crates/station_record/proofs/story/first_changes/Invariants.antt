use Rattle.std.proofs.Common.{◌≡◌, map, take}
use Rattle.station_record.specs.inside.FirstChanges.{first_change}
use Rattle.station_record.proofs.story.first_changes.Given as goal

abbrev pub invariant-loop-watch : goal.invariant-loop-watch
invariant-loop-watch l = l.changes.items ≡ map (first_change l.time) (take l.watch-index l.watches)
