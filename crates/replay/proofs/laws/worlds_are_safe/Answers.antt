use Rattle.replay.proofs.Safety.{all_safe, starts_at, starts_first}
use Rattle.replay.proofs.laws.worlds_are_safe.Goals as goal

pub returns-clause-first : goal.returns-clause-first
returns-clause-first c = λ site first now is.
    let reached = c.reached_worlds_are_safe.ensures
    in all_safe reached.on reached.safe first now (starts_first reached.first site first is)

pub returns-clause-at : goal.returns-clause-at
returns-clause-at c = λ site outset first now is.
    let reached = c.reached_worlds_are_safe.ensures
    in all_safe reached.on reached.safe first now (starts_at reached.at site outset first is)
