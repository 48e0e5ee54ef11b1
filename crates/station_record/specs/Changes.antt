-- The changes of a session: each time when a lane shows something else than before, in the order of the session, once.
use Rattle.std.specs.Prelude.{◌≡◌, ◌≢◌, ◌⊎◌, ◌+◌, ℕ, List, [], ◌∷◌, ◌++◌, map}
use Rattle.replay.specs.simulator_spec.Tried.{Played, after}
use Rattle.replay.specs.replay_lines.declared.session.Entry.{Entry}
use Rattle.lane_chart.specs.declared.change.Change.{Change}
use Rattle.station_record.specs.declared.watch.Watch.{Watch}
use Rattle.lane_chart.specs.declared.lane.Lane.{Lane}
use Rattle.station_record.specs.Lanes.{lanes_of}
use Rattle.station_record.specs.Seen.{seen_at}

-- ---- one event

-- a lane with what it shows
abbrev pub watch_of : Played → Lane → Watch
watch_of world lane = record { lane = lane; seen = seen_at world lane }

-- that a lane shows this from now on
abbrev pub change_to : ℕ → Played → Lane → Change
change_to line world lane = record { line = line; time = world.run.time; lane = lane; seen = seen_at world lane }

-- What is told of a lane: a change where it shows something else than before, and nothing where it doesn't.
abbrev pub TellsLane : ℕ → Played → Watch → List Change → Type 0
TellsLane line now watch told =
    ((watch.seen ≡ seen_at now watch.lane) × (told ≡ [])) ⊎ ((watch.seen ≢ seen_at now watch.lane) × (told ≡ change_to line now watch.lane ∷ []))

-- so of each lane, one after the other
unfoldable pub TellsLanes : ℕ → Played → List Watch → List Change → Type 0
TellsLanes line now [] told = told ≡ []
TellsLanes line now (watch ∷ others) told =
    (this : List Change) × (rest : List Change) × TellsLane line now watch this × TellsLanes line now others rest × (told ≡ this ++ rest)

-- ---- a session

module _ (lanes : List Lane) where
  -- What the events of a session from a line on change, one after the other.
  unfoldable pub TellsEvents : ℕ → Played → List Entry → List Change → Type 0
  TellsEvents line now [] told = told ≡ []
  TellsEvents line now (entry ∷ later) told =
      (these : List Change) × (rest : List Change) × TellsLanes line (after now entry.event) (map (watch_of now) lanes) these
      × TellsEvents (line + 1) (after now entry.event) later rest × (told ≡ these ++ rest)

-- What each lane shows at first, and all that the events of a session change.
abbrev pub IsHistory : Played → List Entry → List Change → Type 0
IsHistory first entries told =
    let lanes = lanes_of first.sited.site in
    (changed : List Change) × TellsEvents lanes 1 first entries changed × (told ≡ map (change_to 0 first) lanes ++ changed)
