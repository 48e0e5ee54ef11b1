use Rattle.std.proofs.Common.{◌≡◌, drop}
use Rattle.ixl_spec.specs.Step.{indicated_heard}
use Rattle.ixl_known.proofs.known_signal.indicated_heard.Given as goal

abbrev pub invariant-loop-indication : goal.invariant-loop-indication
invariant-loop-indication l = indicated_heard (drop l.indication-index l.heard) l.last ≡ indicated_heard l.heard l.fn.indicated
