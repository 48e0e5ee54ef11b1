use Rattle.simulator_recovery.proofs.Lemmas.Talk.AlwaysSaid.{always_said, first_said, said_after}
use Rattle.simulator_recovery.proofs.talk.controllers_have_said_what_their_stages_tell.Goals as goal

pub returns-clause-first : goal.returns-clause-first
returns-clause-first c = first_said

pub returns-clause-kept : goal.returns-clause-kept
returns-clause-kept c = λ site table event world network whole are counts said. said_after c.laws_below.ensures site table event world network whole are counts said

pub returns-clause-always : goal.returns-clause-always
returns-clause-always c = λ site table world station once reached. always_said c.laws_below.ensures site table station once world reached
