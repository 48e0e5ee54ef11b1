use Rattle.ixl_spec.specs.State.{KnownSignalState}
use Rattle.ixl_spec.specs.Step.{clocked_known_signal}
use Rattle.ixl_known.proofs.ClockOnNodes.{HaveSettled}
use Rattle.ixl_known.proofs.field_clock.settle_known_signals.Given as goal

abbrev pub invariant-loop-known_signal : goal.invariant-loop-known_signal
invariant-loop-known_signal l = HaveSettled (λ (one : KnownSignalState). one.client) (clocked_known_signal l.now) l.now l.initial.known_signals l.known_signals l.known_signal-index
