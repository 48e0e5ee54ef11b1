use Rattle.std.proofs.Common.{ℕ, List}
use Rattle.station_drive.specs.Engines.{EnginePerforms}
use Rattle.station_drive.specs.Rounds.{comings}
use Rattle.station_drive.proofs.engine.Engine.hear.Given as goal

-- the datagrams that were delivered so far
abbrev pub invariant-loop : goal.invariant-loop
invariant-loop g l = (heard : List (List ℕ)) × EnginePerforms g.S.Station g.N.Datagrams (comings l.node heard) l.fn.self l.self
