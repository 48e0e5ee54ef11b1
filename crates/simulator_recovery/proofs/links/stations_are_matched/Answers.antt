use Rattle.simulator_recovery.proofs.Lemmas.Ground.MatchedEnds.{all_matched}
use Rattle.simulator_recovery.proofs.links.stations_are_matched.Goals as goal

pub returns : goal.returns
returns c = λ site table world reached. all_matched site table world reached
