use Rattle.std.proofs.Common.{◌≡◌, drop}
use Rattle.ixl_spec.specs.Step.{occupied_heard}
use Rattle.ixl_known.proofs.known_detector.occupied_heard.Given as goal

abbrev pub invariant-loop-indication : goal.invariant-loop-indication
invariant-loop-indication l = occupied_heard (drop l.indication-index l.heard) l.row ≡ occupied_heard l.heard l.fn.occupied
