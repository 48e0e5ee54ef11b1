use Rattle.std.proofs.Common.{◌≡◌, List, length}
use Rattle.station_drive.specs.Engines.{EnginePerforms}
use Rattle.station_drive.specs.Rounds.{Hearing, hearings}
use Rattle.station_drive.proofs.engine.Engine.hear_all.Given as goal

-- what the nodes so far heard
abbrev pub invariant-loop-node : goal.invariant-loop-node
invariant-loop-node g l = (heard : List Hearing) × (length heard ≡ l.node) × EnginePerforms g.S.Station g.N.Datagrams (hearings 0 heard) l.fn.self l.self
