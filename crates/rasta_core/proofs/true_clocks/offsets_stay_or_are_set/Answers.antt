use Rattle.rasta_core.proofs.LinkOffsets.{restarts_set, stays_or_is_set}
use Rattle.rasta_core.proofs.true_clocks.offsets_stay_or_are_set.Goals as goal

pub returns-clause-stays : goal.returns-clause-stays
returns-clause-stays c = stays_or_is_set

pub returns-clause-restarts : goal.returns-clause-restarts
returns-clause-restarts c = restarts_set
