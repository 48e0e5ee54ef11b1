use Rattle.std.proofs.Common.{◌≡◌, ◌-◌, []}
use Rattle.railway_layout.specs.Way.{way_on}
use Rattle.railway_layout.proofs.way.way_on.Given as goal

abbrev pub invariant-loop-step : goal.invariant-loop-step
invariant-loop-step l = way_on l.joints l.border (l.most - l._step) l.port l.tracks.items ≡ way_on l.joints l.border l.most l.fn.from []
