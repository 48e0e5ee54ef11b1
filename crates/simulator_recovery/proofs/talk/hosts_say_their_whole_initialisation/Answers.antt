use Rattle.simulator_recovery.proofs.Lemmas.Talk.WindowRoom.{accepts, said_few, said_whole}
use Rattle.simulator_recovery.proofs.talk.hosts_say_their_whole_initialisation.Goals as goal

pub returns-clause-accepts : goal.returns-clause-accepts
returns-clause-accepts g c = accepts

pub returns-clause-few : goal.returns-clause-few
returns-clause-few g c = said_few 0 _

pub returns-clause-whole : goal.returns-clause-whole
returns-clause-whole g c = λ now host room. said_whole now _ host room
