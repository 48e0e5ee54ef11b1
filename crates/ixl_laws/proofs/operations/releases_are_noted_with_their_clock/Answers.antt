use Rattle.ixl_laws.proofs.Released.{first_ended, first_unreleased, step_clock, step_ended}
use Rattle.ixl_laws.proofs.operations.releases_are_noted_with_their_clock.Goals as goal

pub returns-clause-clock : goal.returns-clause-clock
returns-clause-clock c now input old new answer number before after step there also = step_clock now input old new answer number before after step there also

pub returns-clause-unreleased : goal.returns-clause-unreleased
returns-clause-unreleased c = first_unreleased

pub returns-clause-first : goal.returns-clause-first
returns-clause-first c = first_ended

pub returns-clause-ended : goal.returns-clause-ended
returns-clause-ended c = step_ended
