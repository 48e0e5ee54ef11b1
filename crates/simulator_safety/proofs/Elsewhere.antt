-- What is seen of a controller whose end of the link is as it was, and of the interlocking.
use Rattle.std.proofs.Common.{◌≡◌, ◌∙◌, ℕ, true, List, length, refl, sym, ap, subst}
use Rattle.std.specs.Prelude.{slice_get}
use Rattle.simulator_link_laws.specs.layout.Entries.{Site}
use Rattle.simulator_link_laws.specs.rasta_core.Ends.{EndState, reading_of}
use Rattle.simulator_link_laws.specs.rasta_core.Links.{Links}
use Rattle.simulator_link_laws.specs.rasta_core.Run.{Ends}
use Rattle.simulator_link_laws.specs.rasta_core.State.{is_open}
use Rattle.simulator_link_laws.specs.object_host.Host.{HostState}
use Rattle.simulator_link_laws.specs.point_ctl.Drive.{PointState}
use Rattle.simulator_link_laws.specs.signal_ctl.Signal.{SignalState}
use Rattle.simulator_link_laws.specs.ixl_spec.State.{IxlState}
use Rattle.simulator_link_laws.specs.ixl_spec.Table.{Table}
use Rattle.simulator_machine.specs.Link.{Link}
use Rattle.simulator_machine.specs.Machine.{Machine}
use Rattle.simulator_machine.specs.Point.{Point as MachinePoint, moves_given, reports_made}
use Rattle.simulator_machine.specs.Signal.{Signal as MachineSignal, aspects_given}
use Rattle.simulator_link_laws.specs.simulator_move_laws.Items.{aspects_in, moves_in, reports_in}
use Rattle.simulator_link_laws.specs.simulator_move_laws.Flows.{of_server, reports_given}
use Rattle.simulator_link_laws.specs.simulator_move_laws.EndsSeen.{client_of, is_inside, is_same_connection, represented, server_in, state_of}
use Rattle.simulator_link_laws.specs.simulator_move_laws.Point.{IsPointSeen}
use Rattle.simulator_link_laws.specs.simulator_move_laws.Signal.{IsSignalSeen}
use Rattle.simulator_link_laws.specs.simulator_move_laws.Onward.{LooksAlike}
use Rattle.simulator_link_laws.specs.simulator_move_laws.Calls.{Items}
use Rattle.simulator_link_laws.specs.simulator_move_laws.Sees.{Given, Sees, SeesPoint, SeesSignal}
use Rattle.simulator_link_laws.specs.simulator_spec.Nodes.{point_link}
use Rattle.simulator_link_laws.specs.simulator_spec.State.{ClockedInterlockingState}
use Rattle.simulator_safety.specs.Represents.{IsInterlockingSeen, given_in, items_of}

-- the laws of what stays
pub record StayLaws : Type 0 where
  pub signal : (ends new : Ends) (host : HostState SignalState) (signal other : MachineSignal) → new.server ≡ ends.server → IsSignalSeen ends host signal → other.link ≡ represented new
      → aspects_given other ≡ aspects_in new.client.given → (is_open new.server.link.phase ≡ true → other.done ≡ signal.done) → IsSignalSeen new host other
  pub point : (ends new : Ends) (host : HostState PointState) (point other : MachinePoint) → new.server ≡ ends.server → IsPointSeen ends host point → other.link ≡ represented new
      → moves_given other ≡ length (moves_in new.client.given) → (is_open new.server.link.phase ≡ true → other.taken ≡ point.taken) → reports_made other ≡ reports_in (reports_given new)
      → other.position ≡ point.position → other.driven ≡ point.driven → IsPointSeen new host other
  pub station : (now : ℕ) (ixl : IxlState) (given : Given) (old new : Machine) → Sees now ixl given old → LooksAlike ixl old new → Sees now ixl given new

-- ---- a link is seen as its two ends

abbrev two_ends : EndState → EndState → Link
two_ends client server = record { client = client_of client; server = server_in (is_inside (state_of server)) (is_same_connection client.connection server.connection) }

of_two : (ends : Ends) → represented ends ≡ two_ends ends.client ends.server
unfolding represented
of_two ends = refl

pub same_representation : (ends new : Ends) → new.client ≡ ends.client → new.server ≡ ends.server → represented ends ≡ represented new
same_representation ends new client server =
    of_two ends
    ∙ ap (λ (e : EndState). two_ends e ends.server) (sym client)
    ∙ ap (λ (e : EndState). two_ends new.client e) (sym server)
    ∙ sym (of_two new)

pub client_seen : (ends : Ends) → (represented ends).client ≡ client_of ends.client
unfolding represented
client_seen ends = refl

abbrev reports_of : EndState → EndState → List (List ℕ)
reports_of client server = of_server (server_in (is_inside (state_of server)) (is_same_connection client.connection server.connection)) server.given

same_reports : (ends new : Ends) → new.client ≡ ends.client → new.server ≡ ends.server → reports_given ends ≡ reports_given new
same_reports ends new client server =
    ap (λ (e : EndState). reports_of e ends.server) (sym client)
    ∙ ap (λ (e : EndState). reports_of new.client e) (sym server)

-- ---- the same ends

pub signal_stays : StayLaws → (ends new : Ends) (host : HostState SignalState) (signal : MachineSignal) → new.client ≡ ends.client → new.server ≡ ends.server → IsSignalSeen ends host signal
    → IsSignalSeen new host signal
signal_stays laws ends new host signal client server is =
    laws.signal ends new host signal signal server is (is.link ∙ same_representation ends new client server) (is.given ∙ ap (λ (e : EndState). aspects_in e.given) (sym client)) (λ inside. refl)

pub point_stays : StayLaws → (ends new : Ends) (host : HostState PointState) (point : MachinePoint) → new.client ≡ ends.client → new.server ≡ ends.server → IsPointSeen ends host point
    → IsPointSeen new host point
point_stays laws ends new host point client server is =
    laws.point ends new host point point server is (is.link ∙ same_representation ends new client server) (is.given ∙ ap (λ (e : EndState). length (moves_in e.given)) (sym client)) (λ inside. refl)
    (is.made ∙ ap reports_in (same_reports ends new client server)) refl refl

-- ---- the interlocking

module _ (laws : StayLaws) (site : Site) (table : Table) (before after : Links) (clients : (link : ℕ) → (after.ends link).client ≡ (before.ends link).client) where
  same_items : (link : ℕ) → items_of (before.ends link).client ≡ items_of (after.ends link).client
  same_items link = ap items_of (sym (clients link))

  pub station_stays : (station : ClockedInterlockingState) (machine other : Machine) → LooksAlike station.ixl machine other → IsInterlockingSeen site table before station machine → IsInterlockingSeen site table after station other
  station_stays station machine other alike is =
      let sees = laws.station (reading_of station.clock) station.ixl (given_in site before) machine other is.sees alike
      in record {
        sees = record {
          signals = λ place. subst (λ (items : Items). SeesSignal (reading_of station.clock) station.ixl (slice_get station.ixl.known_signals place) items (other.signals place)) (same_items place) (sees.signals place);
          points = λ place. subst (λ (items : Items). SeesPoint (reading_of station.clock) station.ixl (slice_get station.ixl.known_points place) items (other.points place)) (same_items (point_link site place)) (sees.points place);
          routes = sees.routes;
          holding = sees.holding;
        };
        routes = is.routes;
        objects = is.objects;
        clock = is.clock;
      }
