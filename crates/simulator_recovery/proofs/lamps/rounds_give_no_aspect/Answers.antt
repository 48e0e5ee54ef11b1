use Rattle.simulator_recovery.proofs.Lemmas.Lamps.GivenNoMore.{round_gives_no_more, round_stays}
use Rattle.simulator_recovery.proofs.lamps.rounds_give_no_aspect.Goals as goal

pub returns-clause-given : goal.returns-clause-given
returns-clause-given c = round_gives_no_more

pub returns-clause-stays : goal.returns-clause-stays
returns-clause-stays c = round_stays
