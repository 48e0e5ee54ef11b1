use Rattle.simulator_recovery.proofs.Lemmas.Talk.HostCounts.{step_counts}
use Rattle.simulator_recovery.proofs.talk.hosts_count_what_they_act_on.Goals as goal

pub returns : goal.returns
returns g c = λ now input host count has. step_counts _ now count input host has
