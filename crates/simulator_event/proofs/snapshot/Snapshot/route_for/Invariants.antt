use Rattle.std.proofs.Common.{◌≡◌}
use Rattle.simulator_event.specs.declared.snapshot.Held.{Held}
use Rattle.simulator_event.proofs.Loops.{AllBelow}
use Rattle.simulator_event.proofs.snapshot.Snapshot.route_for.Given as goal

abbrev pub invariant-loop-held : goal.invariant-loop-held
invariant-loop-held l = AllBelow (λ (h : Held). h.signal ≡ l.signal → ⊥) l.held-items l.held-index
