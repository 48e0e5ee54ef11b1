use Rattle.std.proofs.Common.{◌≡◌, List}
use Rattle.simulator_spec.specs.layout.Entries.{Site}
use Rattle.simulator_spec.specs.layout.Once.{Once}
use Rattle.simulator_spec.specs.layout.Station.{IsStation}
use Rattle.simulator_spec.specs.ixl_spec.Table.{Table}
use Rattle.simulator_spec.specs.rasta_core.Links.{AreLinks, begun}
use Rattle.simulator_spec.specs.First.{world_at}
use Rattle.simulator_spec.specs.Links.{names_at, starts_at_zero}
use Rattle.simulator_spec.specs.Nodes.{links}
use Rattle.simulator_spec.specs.Happens.{happens}
use Rattle.simulator_link_laws.specs.Events.{events_of}
use Rattle.simulator_link_laws.proofs.Alike.{pass_alike}
use Rattle.simulator_link_laws.proofs.Later.{steps_count}
use Rattle.simulator_link_laws.proofs.TrueLinks.{TrueLaws, all_kept, first_kept, one_kept}
use Rattle.simulator_link_laws.proofs.true_clocks.true_clocks_keep_links.Goals as goal

pub returns : goal.returns
unfolding happens events_of
returns c =
    let laws : (site : Site) (table : Table) → IsStation site → Once site → TrueLaws site table
    = λ site table station once. let are : AreLinks (links site) (names_at site) = c.layouts_name_their_links.ensures site station once in record {
      steady = c.steady_clocks_are_off_little.ensures;
      starts = c.links_keep_time_by_their_offsets.ensures.starts (links site) (names_at site) starts_at_zero are;
      passes = c.links_keep_time_by_their_offsets.ensures.passes (links site) (names_at site);
      at_once = λ offsets events network is once may. c.links_keep_time_by_their_offsets.ensures.at_once (links site) (names_at site) offsets events network are is once may;
      timely = c.links_keep_time_by_their_offsets.ensures.timely (links site) (names_at site);
      stays = c.offsets_stay_or_are_set.ensures.stays;
      restarts = c.offsets_stay_or_are_set.ensures.restarts;
      exactly = λ happening world network whole timely of_world none. c.events_are_those_of_the_links.ensures.exactly site table happening world network are whole timely of_world none;
      whole = λ happening world network whole timely of_world none. c.events_are_those_of_the_links.ensures.whole site table happening world network are station whole timely of_world none;
    }
    in record {
      first = λ site table outset events station once is time. first_kept site table (laws site table station once) events (world_at site table outset)
          (c.a_station_begins_its_links.ensures site table outset is) (c.stations_have_links.ensures.first site table outset station is).whole time;
      kept = λ site table event others world network station once is may. one_kept site table (laws site table station once) event others world network is may;
      passes = λ site table elapsed clocks world network other whole are timely may true_links. pass_alike site table elapsed clocks world network other whole are timely (steps_count site elapsed clocks world may) true_links;
      timely = λ site table todo world network is. c.links_keep_time_by_their_offsets.ensures.timely (links site) (names_at site) is.offsets network is.timely;
      run = λ site table outset events station once is may time. all_kept site table (laws site table station once) events (world_at site table outset) (begun (names_at site) starts_at_zero)
          (first_kept site table (laws site table station once) events (world_at site table outset) (c.a_station_begins_its_links.ensures site table outset is) (c.stations_have_links.ensures.first site table outset station is).whole time) may;
    }
