use Rattle.std.proofs.Common.{◌≡◌, take}
use Rattle.layout.proofs.site.copy_detectors.Given as goal

abbrev pub invariant-loop-detector : goal.invariant-loop-detector
invariant-loop-detector l = l.copies.items ≡ take l.detector-index l.detectors
