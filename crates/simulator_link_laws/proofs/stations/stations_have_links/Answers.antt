use Rattle.std.proofs.Common.{◌≡◌, [], None}
use Rattle.simulator_spec.specs.layout.Entries.{Site}
use Rattle.simulator_spec.specs.layout.Once.{Once}
use Rattle.simulator_spec.specs.layout.Station.{IsStation}
use Rattle.simulator_spec.specs.ixl_spec.Table.{Table}
use Rattle.simulator_spec.specs.rasta_core.EachLink.{AreTimely}
use Rattle.simulator_spec.specs.rasta_core.Links.{AreLinks, begun}
use Rattle.simulator_spec.specs.simulator_event.declared.event.Event.{Event}
use Rattle.simulator_spec.specs.First.{IsOutsetOf, Outset, world_at}
use Rattle.simulator_spec.specs.Happens.{happens}
use Rattle.simulator_spec.specs.Links.{names_at, starts_at_zero}
use Rattle.simulator_spec.specs.Nodes.{links}
use Rattle.simulator_spec.specs.Refusals.{refusal}
use Rattle.simulator_spec.specs.State.{WorldState}
use Rattle.simulator_link_laws.proofs.Runs.{all_stand, links_go_on}
use Rattle.simulator_link_laws.proofs.StationWhole.{outset_is_whole}
use Rattle.simulator_link_laws.specs.HasLinks.{IsStanding, links_in}
use Rattle.simulator_link_laws.proofs.Names.{station_names}
use Rattle.simulator_link_laws.proofs.stations.stations_have_links.Goals as goal

pub returns : goal.returns
returns c =
    let first : (site : Site) (table : Table) (outset : Outset) → IsStation site → IsOutsetOf site outset → IsStanding site (world_at site table outset)
    = λ site table outset station is. record {
      linked = record { events = []; may = tt; are = c.a_station_begins_its_links.ensures site table outset is };
      whole = outset_is_whole site (station_names site station) station table outset is;
    }
    in let kept : (site : Site) (table : Table) (event : Event) (world : WorldState) → IsStation site → Once site → IsStanding site world
    → refusal site event world ≡ None → IsStanding site (happens site table event world)
    = λ site table event world station once stands none.
    let are : AreLinks (links site) (names_at site) = c.layouts_name_their_links.ensures site station once
    in let timely : AreTimely (links site) (names_at site) (links_in stands.linked)
    = c.links_keep_time.ensures.run (links site) (names_at site) stands.linked.events (begun (names_at site) starts_at_zero) are (c.links_keep_time.ensures.starts (links site) (names_at site) starts_at_zero are) stands.linked.may
    in record {
      linked = links_go_on site world (happens site table event world) stands.linked
          (c.events_are_those_of_the_links.ensures.follow site table event world (links_in stands.linked) are stands.whole timely stands.linked.are none);
      whole = c.events_are_those_of_the_links.ensures.whole site table event world (links_in stands.linked) are station stands.whole timely stands.linked.are none;
    }
    in record {
      first = first;
      kept = kept;
      run = λ site table outset events station once is can. all_stand site table (λ event world stands none. kept site table event world station once stands none) events (world_at site table outset) (first site table outset station is) can;
    }
