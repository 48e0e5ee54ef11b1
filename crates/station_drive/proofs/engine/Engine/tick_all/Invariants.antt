use Rattle.std.proofs.Common.{map}
use Rattle.station_drive.specs.Doings.{Applying}
use Rattle.station_drive.specs.Engines.{EnginePerforms}
use Rattle.station_drive.specs.Rounds.{ticks}
use Rattle.station_drive.proofs.engine.Engine.tick_all.Given as goal

-- the nodes so far ticked
abbrev pub invariant-loop-node : goal.invariant-loop-node
invariant-loop-node g l = EnginePerforms g.S.Station g.N.Datagrams (map Applying (ticks l.node)) l.fn.self l.self
