use Rattle.panel_connections.specs.Served.{Serves}
use Rattle.panel_connections.proofs.connections.Connections.serve.Given as goal

-- what was asked so far was answered
abbrev pub invariant-loop-peer : goal.invariant-loop-peer
invariant-loop-peer g l = Serves g.V.Service.answers l.fn.service l.service
