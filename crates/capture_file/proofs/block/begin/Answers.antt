use Rattle.std.proofs.Common.{rules, [], subst, sym}
use Rattle.capture_file.specs.Captures.{IsCapture}
use Rattle.capture_file.proofs.Files.{head_is}
use Rattle.capture_file.proofs.block.begin.Goals as goal

pub returns-clause-exact : goal.returns-clause-exact
returns-clause-exact c = search rules

pub returns-clause-is : goal.returns-clause-is
returns-clause-is c = subst (λ b. IsCapture [] b) (sym (returns-clause-exact c)) head_is
