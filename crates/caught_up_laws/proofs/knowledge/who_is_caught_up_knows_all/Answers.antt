use Rattle.caught_up_laws.proofs.Conclusions.{knows_all, knows_in_time, knows_until}
use Rattle.caught_up_laws.proofs.knowledge.who_is_caught_up_knows_all.Goals as goal

pub returns-clause-by_clock : goal.returns-clause-by_clock
returns-clause-by_clock c = λ who names start earlier later are. knows_all c.laws_below.ensures names are who start earlier later

pub returns-clause-in_time : goal.returns-clause-in_time
returns-clause-in_time c = λ who names start earlier later are. knows_in_time c.laws_below.ensures names are who start earlier later

pub returns-clause-until : goal.returns-clause-until
returns-clause-until c = λ who names start earlier later are. knows_until c.laws_below.ensures names are who start earlier later
