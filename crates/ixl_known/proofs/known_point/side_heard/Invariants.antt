use Rattle.std.proofs.Common.{◌≡◌, drop}
use Rattle.ixl_spec.specs.Step.{side_heard}
use Rattle.ixl_known.proofs.known_point.side_heard.Given as goal

abbrev pub invariant-loop-indication : goal.invariant-loop-indication
invariant-loop-indication l = side_heard (drop l.indication-index l.heard) l.last ≡ side_heard l.heard l.fn.side
