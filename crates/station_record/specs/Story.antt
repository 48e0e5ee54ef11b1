-- What happens in a session.
use Rattle.std.specs.Prelude.{◌≡◌, List, [], ◌∷◌, map}
use Rattle.replay.specs.simulator_spec.Tried.{Played, after}
use Rattle.replay.specs.replay_lines.declared.session.Entry.{Entry}
use Rattle.station_record.specs.declared.story.Story.{Story}
use Rattle.station_record.specs.Changes.{IsHistory}
use Rattle.station_record.specs.Marks.{marks_of, seen_mark}

-- the world after all events of a session
unfoldable pub world_behind : Played → List Entry → Played
world_behind now [] = now
world_behind now (entry ∷ later) = world_behind (after now entry.event) later

-- A story is that of a session that begins with this world.
pub record IsStoryOf (first : Played) (entries : List Entry) (story : Story) : Type 0 where
  pub history : IsHistory first entries story.changes.items
  pub happenings : map seen_mark story.happenings.items ≡ marks_of 1 first entries
  pub end : story.end ≡ (world_behind first entries).run.time
