use Rattle.std.proofs.Common.{◌≡◌, [], ◌∷◌, ◌++◌, None, refl, sym, ap, subst, ◌∙◌}
use Rattle.simulator_link_laws.specs.layout.Entries.{Site}
use Rattle.simulator_link_laws.specs.layout.Once.{Once}
use Rattle.simulator_link_laws.specs.layout.Station.{IsStation}
use Rattle.simulator_link_laws.specs.ixl_spec.Table.{Table}
use Rattle.ixl_table.specs.Table.{IsTableOf}
use Rattle.simulator_machine.specs.Machine.{Machine}
use Rattle.simulator_link_laws.specs.simulator_event.declared.event.Event.{Event}
use Rattle.simulator_link_laws.specs.simulator_spec.First.{IsOutsetOf, Outset, at_rest, world_at}
use Rattle.simulator_link_laws.specs.simulator_spec.Happens.{happens}
use Rattle.simulator_link_laws.specs.simulator_spec.Refusals.{refusal}
use Rattle.simulator_link_laws.specs.simulator_spec.Seen.{IsSnapshotOf}
use Rattle.simulator_link_laws.specs.simulator_spec.State.{WorldState}
use Rattle.simulator_link_laws.specs.HasLinks.{IsStanding}
use Rattle.simulator_safety.specs.Reached.{HasSafeLinks, IsReached, IsReachedSafely}
use Rattle.simulator_safety.specs.Represents.{Represents}
use Rattle.simulator_safety.proofs.reached.reached_worlds_are_safe.Goals as goal

pub returns : goal.returns
returns c =
    let on : (site : Site) (table : Table) (event : Event) (world : WorldState) → IsReached site table world → refusal site event world ≡ None → IsReached site table (happens site table event world)
    = λ site table happening world is none. record {
      outset = is.outset;
      lies = is.lies;
      events = is.events ++ happening ∷ [];
      can = c.lists_of_events_go_on.ensures.can site table is.events happening (world_at site table is.outset) is.can (ap (refusal site happening) (sym is.after) ∙ none);
      after = ap (happens site table happening) is.after ∙ sym (c.lists_of_events_go_on.ensures.after site table is.events happening (world_at site table is.outset));
    }
    in let at : (site : Site) (table : Table) (outset : Outset) → IsOutsetOf site outset → IsReached site table (world_at site table outset)
    = λ site table outset lies. record { outset = outset; lies = lies; events = []; can = tt; after = refl }
    in let linked : (site : Site) (table : Table) (world : WorldState) → Once site → IsStation site → IsReached site table world → HasSafeLinks site world
    = λ site table world once station reached.
    let stands : IsStanding site world = subst (IsStanding site) (sym reached.after) (c.stations_have_links.ensures.run site table reached.outset reached.events station once reached.lies reached.can)
    in record {
      has = stands.linked;
      each = λ link below. c.each_link_of_a_station_is_safe.ensures site world station once stands.linked link below;
    }
    in let seen : (site : Site) (table : Table) (world : WorldState) → Once site → IsStation site → IsTableOf site table → IsReached site table world → (machine : Machine) × Represents site table world machine
    = λ site table world once station is reached. subst (λ w. (machine : Machine) × Represents site table w machine) (sym reached.after) (c.every_world_is_safe.ensures.seen site table reached.outset reached.events once station is reached.lies reached.can)
    in let all : (site : Site) (table : Table) (world : WorldState) → Once site → IsStation site → IsTableOf site table → IsReached site table world → IsReachedSafely site table world
    = λ site table world once station is reached.
    let sees = seen site table world once station is reached
    in let safe = linked site table world once station reached
    in record {
      aspects = c.aspects_in_flight_are_of_held_routes.ensures site table world sees.0 station is sees.1;
      moves = c.points_of_held_routes_are_at_rest.ensures site table world sees.0 station is sees.1;
      takes = λ node bytes. c.what_is_taken_was_in_flight.ensures site table node bytes world sees.0 station once sees.1;
      safe = safe;
      given = c.items_are_read_off_the_datagrams.ensures site world once station safe.has;
    }
    in record {
      at = at;
      first = λ site table. subst (IsReached site table) (sym (c.the_first_world_is_at_rest.ensures.world site table)) (at site table (at_rest site) (c.the_first_world_is_at_rest.ensures.outset site));
      on = on;
      safe = λ site table world snapshot once station is reached of.
          c.every_world_is_safe.ensures.safe site table reached.outset reached.events snapshot once station is reached.lies reached.can (subst (λ w. IsSnapshotOf table w snapshot) reached.after of);
      links = linked;
      reached = all;
    }
