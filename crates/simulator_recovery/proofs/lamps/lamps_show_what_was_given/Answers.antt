use Rattle.simulator_recovery.proofs.Lemmas.Lamps.ShowsGiven.{shows_given}
use Rattle.simulator_recovery.proofs.lamps.lamps_show_what_was_given.Goals as goal

pub returns : goal.returns
returns c = shows_given c.laws_below.ensures
