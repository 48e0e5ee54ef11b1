use Rattle.simulator_recovery.proofs.Lemmas.Talk.HostWorld.{said_always, said_first, said_on}
use Rattle.simulator_recovery.proofs.talk.hosts_have_said_what_their_stage_tells.Goals as goal

pub returns-clause-starts : goal.returns-clause-starts
returns-clause-starts g c = λ names start own_name peer_name object version objects many tells.
    said_first _ many objects (c.laws_of_host.ensures) c.laws_of_host.ensures.given names start own_name peer_name object version tells

pub returns-clause-kept : goal.returns-clause-kept
returns-clause-kept g c = λ event world objects many is makes stands.
    said_on _ many objects (c.laws_of_host.ensures) c.laws_of_host.ensures.given event world is makes stands

pub returns-clause-always : goal.returns-clause-always
returns-clause-always g c = λ names start own_name peer_name object version objects events many are tells make may.
    said_always _ many objects (c.laws_of_host.ensures) c.laws_of_host.ensures.given (record {
      world = c.laws_of_host.ensures;
      first = c.laws_of_host.ensures.first;
      starts = c.laws_below.ensures.starts_in_time;
      time = c.laws_below.ensures.every_run_keeps_time;
      settled_so = c.laws_below.ensures.links_are_settled;
      follow = c.laws_below.ensures.calls_may_follow_calls;
    }) names are start own_name peer_name object version events tells make may
