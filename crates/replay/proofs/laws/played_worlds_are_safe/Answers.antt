use Rattle.replay.proofs.laws.played_worlds_are_safe.Goals as goal

pub returns-clause-first : goal.returns-clause-first
returns-clause-first c = λ site first is now from. c.worlds_are_safe.ensures.first site first now is from

pub returns-clause-at : goal.returns-clause-at
returns-clause-at c = λ site outset first is now from. c.worlds_are_safe.ensures.at site outset first now is from
