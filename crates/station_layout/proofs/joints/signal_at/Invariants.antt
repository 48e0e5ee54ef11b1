use Rattle.std.proofs.Common.{◌≡◌, drop}
use Rattle.std.specs.List.{position, position_from}
use Rattle.control_table.specs.layout.Known.{same_port}
use Rattle.station_layout.proofs.joints.signal_at.Given as goal

abbrev pub invariant-loop-place : goal.invariant-loop-place
invariant-loop-place l = position_from (λ s. same_port s.at l.port) l.place (drop l.place l.signals) ≡ position (λ s. same_port s.at l.port) l.signals
