use Rattle.simulator_link_laws.specs.rasta_core.Links.{AreLinks}
use Rattle.simulator_link_laws.specs.Events.{FollowsBy, events_of}
use Rattle.simulator_link_laws.specs.simulator_spec.Happens.{happens}
use Rattle.simulator_link_laws.specs.simulator_spec.Links.{names_at}
use Rattle.simulator_link_laws.specs.simulator_spec.Nodes.{links}
use Rattle.simulator_safety.proofs.networks.networks_follow_their_worlds.Goals as goal

pub returns : goal.returns
returns c = λ site table event world network station once linked none.
    let are : AreLinks (links site) (names_at site) = c.layouts_name_their_links.ensures site station once
    in let by : FollowsBy site (events_of site table event world) (happens site table event world) network
    = c.events_are_those_of_the_links.ensures.exactly site table event world network are linked.whole linked.lawful.timely linked.are none
    in record {
      are = by.are;
      lawful = c.lawful_worlds_stay_lawful.ensures.run (links site) (names_at site) (events_of site table event world) network are linked.lawful by.may;
      whole = c.events_are_those_of_the_links.ensures.whole site table event world network are station linked.whole linked.lawful.timely linked.are none;
    }
