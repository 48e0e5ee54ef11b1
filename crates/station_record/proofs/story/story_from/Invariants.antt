use Rattle.std.proofs.Common.{◌≡◌, ◌++◌, ◌+◌, drop, map}
use Rattle.replay.specs.World.{played}
use Rattle.station_record.specs.Changes.{change_to, watch_of}
use Rattle.station_record.specs.Marks.{marks_of, seen_mark}
use Rattle.station_record.specs.Story.{world_behind}
use Rattle.station_record.proofs.Agreed.{Stands}
use Rattle.station_record.proofs.Events.{Happened}
use Rattle.station_record.proofs.story.story_from.Given as goal

abbrev pub invariant-loop-place : goal.invariant-loop-place
invariant-loop-place l = record {
  stands : Stands l.entries (played l.fn.world) l.place (played l.world);
  watches : l.watches.items ≡ map (watch_of (played l.world)) l.lanes.items;
  changes : Happened l.lanes.items (played l.fn.world) l.entries l.place (played l.world) (map (change_to 0 (played l.fn.world)) l.lanes.items) l.changes.items;
  behind : world_behind (played l.world) (drop l.place l.entries) ≡ world_behind (played l.fn.world) l.entries;
  happenings : map seen_mark l.happenings.items ++ marks_of (l.place + 1) (played l.world) (drop l.place l.entries) ≡ marks_of 1 (played l.fn.world) l.entries;
}
