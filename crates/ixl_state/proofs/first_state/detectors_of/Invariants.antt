use Rattle.std.proofs.Common.{◌≡◌, map, take}
use Rattle.ixl_spec.specs.First.{new_detector_of}
use Rattle.ixl_state.proofs.first_state.detectors_of.Given as goal

abbrev pub invariant-loop-detector : goal.invariant-loop-detector
invariant-loop-detector l = l.detectors.items ≡ map (new_detector_of l.table (record { clock = l.start.now; first = l.start.first_sequence_number })) (take l.detector-index l.detector-items)
