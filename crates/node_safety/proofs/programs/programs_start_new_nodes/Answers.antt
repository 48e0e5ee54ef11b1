use Rattle.std.proofs.Common.{refl}
use Rattle.node_safety.proofs.programs.programs_start_new_nodes.Goals as goal

pub returns : goal.returns
returns c = record {
  signals = λ site entry first now. refl;
  points = λ site entry position first now. refl;
  detectors = λ site entry sensed first now. refl;
}
