use Rattle.std.proofs.Common.{List}
use Rattle.simulator_link_laws.specs.layout.Entries.{Site}
use Rattle.simulator_link_laws.specs.layout.Once.{Once}
use Rattle.simulator_link_laws.specs.layout.Station.{IsStation}
use Rattle.simulator_link_laws.specs.ixl_spec.Table.{Table}
use Rattle.ixl_table.specs.Table.{IsTableOf}
use Rattle.simulator_link_laws.specs.simulator_event.declared.event.Event.{Event}
use Rattle.simulator_machine.specs.Machine.{Machine}
use Rattle.simulator_machine.specs.Run.{first}
use Rattle.simulator_safety.specs.Seen.{positions_at}
use Rattle.simulator_safety.specs.Represents.{Represents, RepresentsAfter}
use Rattle.simulator_link_laws.specs.simulator_move_laws.Rows.{machine_table}
use Rattle.simulator_link_laws.specs.simulator_spec.Run.{CanHappen, after_all}
use Rattle.simulator_link_laws.specs.simulator_spec.First.{world_at}
use Rattle.simulator_link_laws.specs.simulator_spec.State.{WorldState}
use Rattle.simulator_safety.proofs.AllEvents.{MovingLaws, all_kept}
use Rattle.simulator_safety.proofs.headline.every_world_is_reached_by_moves.Goals as goal

pub returns : goal.returns
returns c =
    let laws : (site : Site) (table : Table) → Once site → IsStation site → IsTableOf site table → MovingLaws site table
    = λ site table once station is. record {
      none = c.lists_of_moves_compose.ensures.none (machine_table table);
      compose = c.lists_of_moves_compose.ensures.then (machine_table table);
      each = λ happening world machine represented none. c.every_event_is_represented.ensures site table happening world machine once station is represented none;
    }
    in let on : (site : Site) (table : Table) (events : List Event) (world : WorldState) (machine : Machine) → Once site → IsStation site → IsTableOf site table
    → Represents site table world machine → CanHappen site table events world → RepresentsAfter site table machine (after_all site table events world)
    = λ site table events world machine once station is represented can. all_kept site table (laws site table once station is) events world machine represented can
    in record {
      on = on;
      first = λ site table outset events once station is lies can.
          on site table events (world_at site table outset) (first (positions_at outset)) once station is (c.stations_begin_represented.ensures site table outset station once lies) can;
    }
