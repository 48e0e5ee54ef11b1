use Rattle.std.proofs.Common.{◌≡◌}
use Rattle.station_node.proofs.numbered.Numbered.tell_rows.Given as goal

-- no clock was read
abbrev pub invariant-loop-row : goal.invariant-loop-row
invariant-loop-row g l = (g.O.Outside.told l.self.outside).latest ≡ (g.O.Outside.told l.initial.self.outside).latest
