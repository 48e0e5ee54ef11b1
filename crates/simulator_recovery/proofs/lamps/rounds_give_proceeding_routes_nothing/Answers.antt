use Rattle.simulator_recovery.proofs.Lemmas.Lamps.ProceedsRounds.{round_gives_nothing}
use Rattle.simulator_recovery.proofs.lamps.rounds_give_proceeding_routes_nothing.Goals as goal

pub returns : goal.returns
returns c = round_gives_nothing
