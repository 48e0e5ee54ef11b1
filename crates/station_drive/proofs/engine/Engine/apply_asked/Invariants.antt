use Rattle.std.proofs.Common.{◌≡◌, ◌++◌, List, map, drop}
use Rattle.simulator_event.specs.declared.event.Event.{Event}
use Rattle.station_drive.specs.Doings.{Applying}
use Rattle.station_drive.specs.Engines.{EnginePerforms}
use Rattle.station_drive.proofs.engine.Engine.apply_asked.Given as goal

-- the events so far were applied
abbrev pub invariant-loop-place : goal.invariant-loop-place
invariant-loop-place g l = (done : List Event) × (done ++ drop l.place l.asked ≡ l.asked) × EnginePerforms g.S.Station g.N.Datagrams (map Applying done) l.fn.self l.self
