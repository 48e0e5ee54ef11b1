use Rattle.std.proofs.Common.{◌≡◌, drop}
use Rattle.route_derivation.specs.inside.WaySearch.{signal_from}
use Rattle.route_derivation.proofs.topology.signal_at.Given as goal

abbrev pub invariant-loop-place : goal.invariant-loop-place
invariant-loop-place l = signal_from l.place (drop l.place l.signals) l.port ≡ signal_from 0 l.signals l.port
