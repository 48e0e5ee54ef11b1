use Rattle.simulator_recovery.proofs.Lemmas.Links.ComeUp.{closes_none}
use Rattle.simulator_recovery.proofs.windows.events_close_no_link.Goals as goal

pub returns : goal.returns
returns c = closes_none c.laws_below.ensures
