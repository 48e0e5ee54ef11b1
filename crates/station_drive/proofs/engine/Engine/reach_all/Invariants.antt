use Rattle.std.proofs.Common.{◌≡◌, ◌++◌, List, map, drop}
use Rattle.simulator_event.specs.declared.event.Event.{Event}
use Rattle.station_drive.specs.Doings.{Applying}
use Rattle.station_drive.specs.Engines.{EnginePerforms}
use Rattle.station_drive.specs.Rounds.{reaches}
use Rattle.station_drive.proofs.engine.Engine.reach_all.Given as goal

-- the points so far reached their end positions
abbrev pub invariant-loop-place : goal.invariant-loop-place
invariant-loop-place g l =
    (done : List Event)
    × (done ++ reaches l.jammed l.reading l.place (drop l.place l.drives) ≡ reaches l.jammed l.reading 0 l.drives)
    × EnginePerforms g.S.Station g.N.Datagrams (map Applying done) l.fn.self l.self
