use Rattle.std.proofs.Common.{◌≡◌, map, take}
use Rattle.simulator_spec.specs.sci_telegram.declared.message.Position.TheVariants as positions
use Rattle.simulator_spec.specs.First.{at_zero, first_controller, new_signal}
use Rattle.simulator_field.proofs.first_field.first_signals.Given as goal

abbrev pub invariant-loop-entry : goal.invariant-loop-entry
invariant-loop-entry l = l.signals.items ≡ map (λ entry. first_controller (new_signal l.table at_zero entry)) (take l.entry-index l.table.signals)
