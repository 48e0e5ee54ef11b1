use Rattle.std.proofs.Common.{◌≡◌, ◌++◌, List, map, drop}
use Rattle.simulator_event.specs.declared.event.Event.{Event}
use Rattle.station_drive.specs.Doings.{Applying}
use Rattle.station_drive.specs.Engines.{EnginePerforms}
use Rattle.station_drive.specs.Inside.{waiting}
use Rattle.station_drive.specs.Rounds.{due}
use Rattle.station_drive.proofs.engine.Engine.apply_due.Given as goal

-- those of the lines so far that are due were applied
abbrev pub invariant-loop-place : goal.invariant-loop-place
invariant-loop-place g l =
    (done : List Event)
    × (done ++ due l.passed (waiting l.script.applied (drop l.place l.script.lines.now)) ≡ due l.passed (waiting l.script.applied l.script.lines.now))
    × EnginePerforms g.S.Station g.N.Datagrams (map Applying done) l.fn.self l.self
