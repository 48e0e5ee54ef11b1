-- What the interlocking knows of its points, after every list of events.
use Rattle.simulator_recovery.proofs.Words.Links.{Links, begun, run_links}
use Rattle.simulator_recovery.proofs.Words.Interlockings.{IsTableOf, Table}
use Rattle.simulator_recovery.proofs.Words.Stations.{Site, Once, IsStation, Event, IsOutsetOf, Outset, world_at, happens, names_at, starts_at_zero, WorldState, events_of, IsReached}
use Rattle.simulator_recovery.proofs.Words.Recovery.{HaveTold, LawsBelow}
use Rattle.simulator_recovery.proofs.Lemmas.Talk.AlwaysExpected.{Stands, stands_first, stands_on}
use Rattle.simulator_recovery.proofs.Lemmas.Ground.SectionsEvents.{CanBe, HasHeld, always_held}
use Rattle.simulator_recovery.proofs.Lemmas.Points.KnownStation.{AllKnow, knows_first, knows_on}

module _ (laws : LawsBelow) (site : Site) (table : Table) (station : IsStation site) (once : Once site) (is_table : IsTableOf site table) where
  pub record Knowing (world : WorldState) (network : Links) : Type 0 where
    pub stands : Stands laws site table station once is_table world network
    pub knows : AllKnow site world.interlocking.ixl network

  pub knowing_first : (outset : Outset) → IsOutsetOf site outset → Knowing (world_at site table outset) (begun (names_at site) starts_at_zero)
  knowing_first outset lies = record {
    stands = stands_first laws site table station once is_table outset lies;
    knows = knows_first site table outset;
  }

  pub knowing_on : (happening : Event) (world : WorldState) (network : Links) → CanBe site table happening world network → Knowing world network → Knowing (happens site table happening world) (run_links (events_of site table happening world) network)
  knowing_on happening world network can before = record {
    stands = stands_on laws site table station once is_table happening world network can before.stands;
    knows = knows_on laws laws laws.deliveries_may_come_links site table is_table happening world network can
        (record { stands = before.stands.talking.stands.clients; speaks = before.stands.talking.matching.clients; talk = before.stands.talking.talk }) before.knows;
  }

  pub knowing_held : (world : WorldState) → IsReached site table world → HasHeld laws site table station once Knowing knowing_first knowing_on world
  knowing_held world reached = always_held laws site table station once Knowing knowing_first knowing_on world reached

  pub have_told : (world : WorldState) → IsReached site table world → HaveTold site world
  have_told world reached = record { has = held.has; reports = λ place known e. (held.holds.knows place known e).last }
    where
      held : HasHeld laws site table station once Knowing knowing_first knowing_on world
      held = knowing_held world reached
