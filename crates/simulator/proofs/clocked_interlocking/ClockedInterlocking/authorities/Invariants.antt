use Rattle.std.proofs.Common.{◌≡◌, ◌≤◌, ◌-◌, ◌++◌, length}
use Rattle.simulator_spec.specs.Interlocking.{authorities}
use Rattle.simulator.proofs.clocked_interlocking.ClockedInterlocking.authorities.Given as goal

abbrev pub invariant-loop-place : goal.invariant-loop-place
invariant-loop-place l = record {
  pairs : l.held.items ++ authorities l.self.sited.table l.self.interlocking.ixl l.place (length l.self.interlocking.ixl.known_signals - l.place)
      ≡ authorities l.self.sited.table l.self.interlocking.ixl 0 (length l.self.interlocking.ixl.known_signals);
  few : length l.held.items ≤ l.place;
}
