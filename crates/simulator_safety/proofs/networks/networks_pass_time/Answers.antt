use Rattle.std.specs.Prelude.{drop, slice_index_or}
use Rattle.simulator_link_laws.specs.Events.{events_of}
use Rattle.simulator_link_laws.specs.TrueLinks.{AreTrueLinks}
use Rattle.simulator_link_laws.specs.rasta_core.Links.{run_links}
use Rattle.simulator_link_laws.specs.simulator_event.declared.event.Event.TheVariants.{Time}
use Rattle.simulator_link_laws.specs.simulator_spec.Happens.{happens}
use Rattle.simulator_link_laws.specs.simulator_spec.Links.{names_at}
use Rattle.simulator_link_laws.specs.simulator_spec.Nodes.{links}
use Rattle.simulator_safety.proofs.networks.networks_pass_time.Goals as goal

pub returns : goal.returns
unfolding events_of
returns c = λ site table elapsed clocks world network other linked may true_links.
    let passes : AreTrueLinks site (happens site table (Time elapsed clocks) world) (run_links (events_of site table (Time elapsed clocks) world) network)
    = c.true_clocks_keep_links.ensures.passes site table elapsed clocks world network other linked.whole linked.are linked.lawful.timely may true_links
    in record {
      are = passes.are;
      lawful = c.lawful_worlds_pass_time.ensures (links site) (names_at site) elapsed (λ link. slice_index_or clocks 0 0) (λ link. slice_index_or (drop 1 clocks) link 0) network linked.lawful passes.timely;
      whole = passes.whole;
    }
