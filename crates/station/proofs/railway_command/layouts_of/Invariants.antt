use Rattle.std.proofs.Common.{◌≡◌, length}
use Rattle.station.proofs.railway_command.layouts_of.Given as goal

abbrev pub invariant-loop-station : goal.invariant-loop-station
invariant-loop-station l = length l.layouts.items ≡ l.station-index
