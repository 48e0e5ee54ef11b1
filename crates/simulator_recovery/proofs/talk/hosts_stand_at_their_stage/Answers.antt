use Rattle.simulator_recovery.proofs.Lemmas.Talk.HostWorld.{stands_always}
use Rattle.simulator_recovery.proofs.Lemmas.Talk.HostStands.{stands_first, stands_on}
use Rattle.simulator_recovery.proofs.talk.hosts_stand_at_their_stage.Goals as goal

pub returns-clause-starts : goal.returns-clause-starts
returns-clause-starts g c = stands_first _ (c.laws_of_host.ensures)

pub returns-clause-kept : goal.returns-clause-kept
returns-clause-kept g c = stands_on _ (c.laws_of_host.ensures)

pub returns-clause-always : goal.returns-clause-always
returns-clause-always g c = λ names start own_name peer_name object version events are may. stands_always _ (record {
  world = c.laws_of_host.ensures;
  first = c.laws_of_host.ensures.first;
  starts = c.laws_below.ensures.starts_in_time;
  time = c.laws_below.ensures.every_run_keeps_time;
  settled_so = c.laws_below.ensures.links_are_settled;
  follow = c.laws_below.ensures.calls_may_follow_calls;
}) names are start own_name peer_name object version events may
