use Rattle.simulator_recovery.proofs.Lemmas.Talk.Standing.{all_stand}
use Rattle.simulator_recovery.proofs.talk.stations_stand_by_their_counts.Goals as goal

pub returns : goal.returns
returns c = λ site table world station reached. all_stand site table station world reached
