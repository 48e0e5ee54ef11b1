use Rattle.simulator_recovery.proofs.Lemmas.Talk.HostLinks.{new_stands, step_stands}
use Rattle.simulator_recovery.proofs.talk.hosts_stand_by_their_counts.Goals as goal

pub returns-clause-made : goal.returns-clause-made
returns-clause-made g c = λ identity own_name peer_name first now object version objects many tells. new_stands _ many objects identity own_name peer_name first now object version tells

pub returns-clause-kept : goal.returns-clause-kept
returns-clause-kept g c = λ now input host objects many stands. step_stands _ many objects now input host stands
