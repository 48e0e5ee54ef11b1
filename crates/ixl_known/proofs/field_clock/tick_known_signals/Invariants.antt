use Rattle.ixl_spec.specs.Step.{known_signal_ticking}
use Rattle.ixl_known.specs.inside.Turns.{KnownSignalsTurned}
use Rattle.ixl_known.proofs.field_clock.tick_known_signals.Given as goal

abbrev pub invariant-loop-signal : goal.invariant-loop-signal
invariant-loop-signal l = KnownSignalsTurned l.now 2 (known_signal_ticking l.now) l.signal l.fn.known_signals l.fn.outbox l.known_signals l.outbox
