use Rattle.simulator_machine.proofs.Kept.{promised}
use Rattle.simulator_machine.proofs.laws.promise_follows.Goals as goal

pub returns : goal.returns
returns c = λ table machine sound kept. promised table sound machine kept
