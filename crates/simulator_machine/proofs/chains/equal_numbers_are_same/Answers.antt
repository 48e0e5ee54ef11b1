use Rattle.simulator_machine.proofs.Lists.{same_self, same_is, different}
use Rattle.simulator_machine.proofs.chains.equal_numbers_are_same.Goals as goal

pub returns-clause-same : goal.returns-clause-same
returns-clause-same c = same_self

pub returns-clause-equal : goal.returns-clause-equal
returns-clause-equal c = same_is

pub returns-clause-other : goal.returns-clause-other
returns-clause-other c = different
