use Rattle.simulator_recovery.proofs.Lemmas.Links.NextItems.{goes_on}
use Rattle.simulator_recovery.proofs.links.items_go_on.Goals as goal

pub returns : goal.returns
returns c = λ names ends who bytes connection are_names timely ordered may opened. goes_on c.laws_below.ensures names are_names ends timely ordered bytes connection who may opened
