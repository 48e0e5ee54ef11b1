use Rattle.simulator_recovery.proofs.Lemmas.Links.RoutesRounds.{up_throughout}
use Rattle.simulator_recovery.proofs.routes_coming.links_stay_up.Goals as goal

pub returns : goal.returns
returns c between later_rounds more flowing link flow work works more_works can there = up_throughout c.laws_below.ensures between flowing link flow.once flow.station flow.table flow.reached work there later_rounds more works more_works can
