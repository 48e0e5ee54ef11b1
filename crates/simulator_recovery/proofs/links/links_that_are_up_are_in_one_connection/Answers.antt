use Rattle.simulator_recovery.proofs.Lemmas.Links.InOne.{in_one}
use Rattle.simulator_recovery.proofs.links.links_that_are_up_are_in_one_connection.Goals as goal

pub returns : goal.returns
returns c = in_one c.laws_below.ensures
