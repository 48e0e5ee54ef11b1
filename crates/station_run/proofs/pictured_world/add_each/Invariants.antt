use Rattle.std.proofs.Common.{◌≡◌, ◌-◌, ◌++◌}
use Rattle.station_run.specs.Panel.{all_of, count, each, line_at}
use Rattle.station_record.specs.replay.World.{played}
use Rattle.station_run.proofs.pictured_world.add_each.Given as goal

-- those so far, and after them those that are left
abbrev pub invariant-loop-place : goal.invariant-loop-place
invariant-loop-place l =
    l.lines.items ++ each (line_at (played l.world) l.thing) l.place (count l.world.sited.site l.thing - l.place)
    ≡ l.initial.lines.items ++ all_of (played l.world) l.thing
