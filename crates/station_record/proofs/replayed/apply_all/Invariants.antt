use Rattle.std.proofs.Common.{◌≡◌, drop}
use Rattle.replay.specs.World.{played}
use Rattle.station_record.specs.Traffic.{left_by}
use Rattle.station_record.proofs.replayed.apply_all.Given as goal

-- the events that are left lead where all do
abbrev pub invariant-loop-entry : goal.invariant-loop-entry
invariant-loop-entry l = left_by (played l.world) (drop l.entry-index l.entries) ≡ left_by (played l.fn.world) l.entries
