use Rattle.std.proofs.Common.{◌≡◌, map, take}
use Rattle.ixl_spec.specs.First.{new_known_signal_of}
use Rattle.ixl_state.proofs.first_state.known_signals_of.Given as goal

abbrev pub invariant-loop-signal : goal.invariant-loop-signal
invariant-loop-signal l = l.known_signals.items ≡ map (new_known_signal_of l.table (record { clock = l.start.now; first = l.start.first_sequence_number })) (take l.signal-index l.signal-items)
