use Rattle.simulator_recovery.proofs.Lemmas.RoutesGoing.PassageOver.{no_section_waits}
use Rattle.simulator_recovery.proofs.routes_going.no_section_waits_that_its_passage_lets_go.Goals as goal

pub returns : goal.returns
returns c = no_section_waits c.passage_frees_all_that_it_may.ensures
