use Rattle.simulator_spec.specs.Happens.{happens, passed}
use Rattle.simulator_spec.specs.Refusals.{refusal}
use Rattle.simulator_link_laws.proofs.ByKind.{followed}
use Rattle.simulator_link_laws.proofs.Partners.{partners_count}
use Rattle.simulator_link_laws.proofs.Later.{time_follows, time_kept}
use Rattle.simulator_link_laws.specs.Events.{time_events}
use Rattle.simulator_link_laws.proofs.time_and_losses.time_passes_for_the_links.Goals as goal

pub returns : goal.returns
unfolding happens refusal
returns c = λ site table elapsed clocks world before are none. followed site (time_events elapsed clocks) (passed elapsed clocks world) before
    (time_follows site elapsed clocks world before (time_kept site elapsed clocks world none) are (partners_count site))
