use Rattle.std.proofs.Common.{arith}
use Rattle.release.proofs.Steps.{lets_go}
use Rattle.release.proofs.approach.Approach.due.Goals as goal

pub returns-then-not-self-clause-told : goal.returns-then-not-self-clause-told
returns-then-not-self-clause-told c = λ steps e. lets_go steps c.args.ended_at c.args.now c.args.self.now _ e (grind arith)

pub returns-else-not-self-clause-told : goal.returns-else-not-self-clause-told
returns-else-not-self-clause-told c = λ steps e. lets_go steps c.args.ended_at c.args.now c.args.self.now _ e (grind arith)
