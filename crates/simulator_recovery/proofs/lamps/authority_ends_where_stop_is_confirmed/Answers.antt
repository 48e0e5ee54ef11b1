use Rattle.simulator_recovery.proofs.Lemmas.Lamps.ConfirmedStops.{confirmed_ends}
use Rattle.simulator_recovery.proofs.lamps.authority_ends_where_stop_is_confirmed.Goals as goal

pub returns : goal.returns
returns c = confirmed_ends c.laws_below.ensures
