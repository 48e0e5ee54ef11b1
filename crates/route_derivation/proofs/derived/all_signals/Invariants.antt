use Rattle.std.proofs.Common.{◌<◌, Contains}
use Rattle.control_table.specs.layout.declared.ids.SignalId.{SignalId}
use Rattle.route_derivation.proofs.derived.all_signals.Given as goal

abbrev pub invariant-loop-place : goal.invariant-loop-place
invariant-loop-place l = (s : SignalId) → s.0 < l.place → Contains l.signals.items s
