use Rattle.train_machine.proofs.Kept.{promised, way_found}
use Rattle.train_machine.proofs.laws.promise_follows.Goals as goal

pub returns-clause-apart : goal.returns-clause-apart
returns-clause-apart c = λ track machine sound kept. promised track sound machine kept

pub returns-clause-way : goal.returns-clause-way
returns-clause-way c = λ track machine move sound kept may. way_found track sound machine kept move may
