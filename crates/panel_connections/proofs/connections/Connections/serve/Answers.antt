use Rattle.panel_connections.proofs.Chains.{serves_none, serves_then}
use Rattle.panel_connections.proofs.connections.Connections.serve.Goals as goal

pub loop-peer-init : goal.loop-peer-init
loop-peer-init g c = serves_none _ _

pub loop-peer-preserved : goal.loop-peer-preserved
loop-peer-preserved g c = serves_then _ _ _ _ c.loop-peer.invariant c.serve.ensures
