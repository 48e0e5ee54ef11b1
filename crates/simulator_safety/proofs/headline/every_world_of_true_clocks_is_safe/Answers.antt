use Rattle.std.proofs.Common.{List}
use Rattle.simulator_link_laws.specs.layout.Entries.{Site}
use Rattle.simulator_link_laws.specs.layout.Once.{Once}
use Rattle.simulator_link_laws.specs.layout.Station.{IsStation}
use Rattle.simulator_link_laws.specs.ixl_spec.Table.{Table}
use Rattle.ixl_table.specs.Table.{IsTableOf}
use Rattle.simulator_link_laws.specs.simulator_event.declared.event.Event.{Event}
use Rattle.simulator_machine.specs.Run.{first}
use Rattle.simulator_link_laws.specs.simulator_move_laws.Rows.{machine_table}
use Rattle.simulator_link_laws.specs.rasta_core.Links.{begun}
use Rattle.simulator_link_laws.specs.simulator_spec.First.{IsOutsetOf, Outset, world_at}
use Rattle.simulator_link_laws.specs.simulator_spec.Links.{names_at, starts_at_zero}
use Rattle.simulator_link_laws.specs.simulator_spec.Run.{after_all}
use Rattle.simulator_link_laws.specs.simulator_spec.TrueClocks.{KeepTime, MayAllCome}
use Rattle.simulator_safety.specs.Represents.{RepresentsAfter}
use Rattle.simulator_safety.specs.Seen.{positions_at}
use Rattle.simulator_safety.proofs.TrueEvents.{TrueMoves, all_true, one_true}
use Rattle.simulator_safety.proofs.headline.every_world_of_true_clocks_is_safe.Goals as goal

pub returns : goal.returns
returns c =
    let laws : (site : Site) (table : Table) → Once site → IsStation site → IsTableOf site table → TrueMoves site table
    = λ site table once station is. record {
      none = c.lists_of_moves_compose.ensures.none (machine_table table);
      compose = c.lists_of_moves_compose.ensures.then (machine_table table);
      each = λ happening world machine represented none. c.every_event_is_represented.ensures site table happening world machine once station is represented none;
      time = c.time_of_true_clocks_keeps_representations.ensures site table;
      kept = λ happening others world network keeps may. c.true_clocks_keep_links.ensures.kept site table happening others world network station once keeps may;
      timely = c.true_clocks_keep_links.ensures.timely site table;
    }
    in let reached : (site : Site) (table : Table) (outset : Outset) (events : List Event) → Once site → IsStation site → IsTableOf site table → IsOutsetOf site outset
    → MayAllCome site table events (world_at site table outset) → KeepTime site table events (world_at site table outset)
    → RepresentsAfter site table (first (positions_at outset)) (after_all site table events (world_at site table outset))
    = λ site table outset events once station is lies may time. all_true site table (laws site table once station is) events (world_at site table outset) (first (positions_at outset)) (begun (names_at site) starts_at_zero)
    (c.stations_begin_represented.ensures site table outset station once lies) (c.true_clocks_keep_links.ensures.first site table outset events station once lies time) may
    in record {
      event = λ site table happening others world machine network once station is represented keeps may. one_true site table (laws site table once station is) happening others world machine network represented keeps may;
      reached = reached;
      safe = λ site table outset events snapshot once station is lies may time of.
          let there = reached site table outset events once station is lies may time
          in c.represented_worlds_are_safe.ensures site table (after_all site table events (world_at site table outset)) there.machine snapshot once station is there.represented of;
    }
