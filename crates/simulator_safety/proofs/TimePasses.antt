-- Time that passes at one signal and at one point: first at the controller's end, then at the interlocking's.
use Rattle.std.proofs.Common.{◌≡◌, ◌∙◌, ℕ, length, refl, sym, ap}
use Rattle.simulator_link_laws.specs.rasta_core.Clock.{settled}
use Rattle.simulator_link_laws.specs.rasta_core.Ends.{end_later, reading_of}
use Rattle.simulator_link_laws.specs.rasta_core.Run.{Ends, later}
use Rattle.simulator_link_laws.specs.rasta_core.State.{LinkState}
use Rattle.simulator_link_laws.specs.object_host.Host.{HostState}
use Rattle.simulator_link_laws.specs.point_ctl.Drive.{PointState}
use Rattle.simulator_link_laws.specs.signal_ctl.Signal.{SignalState}
use Rattle.simulator_machine.specs.Link.{Link}
use Rattle.simulator_machine.specs.Point.{Point as MachinePoint, moves_given}
use Rattle.simulator_machine.specs.Signal.{Signal as MachineSignal, aspects_given}
use Rattle.simulator_link_laws.specs.simulator_move_laws.Items.{aspects_in, moves_in, reports_in}
use Rattle.simulator_link_laws.specs.simulator_move_laws.Flows.{of_server, reports_given}
use Rattle.simulator_link_laws.specs.simulator_move_laws.EndsSeen.{is_inside, is_same_connection, represented, server_in, server_of, state_of}
use Rattle.simulator_link_laws.specs.simulator_move_laws.Ends.{server_later}
use Rattle.simulator_link_laws.specs.simulator_move_laws.Point.{IsPointSeen}
use Rattle.simulator_link_laws.specs.simulator_move_laws.Signal.{IsSignalSeen}
use Rattle.simulator_link_laws.specs.simulator_move_laws.Link.{client_at}
use Rattle.simulator_link_laws.specs.simulator_move_laws.Step.{PointStays, SignalStays}
use Rattle.simulator_safety.proofs.StationEnds.{EndLaws, client_represented, link_represented, server_represented}

module _ (elapsed of_client of_server_clock : ℕ) (ends : Ends) where
  abbrev half : Ends
  half = server_later elapsed of_client of_server_clock ends

  abbrev whole : Ends
  whole = later elapsed of_client of_server_clock ends

  server_whole : whole.server ≡ half.server
  server_whole = refl

  connection_whole : whole.client.connection ≡ ends.client.connection
  unfolding later end_later
  connection_whole = refl

  given_whole : whole.client.given ≡ ends.client.given
  unfolding later end_later
  given_whole = refl

  -- the server is seen in the same place when the client's clock has gone on
  pub server_seen : server_of half ≡ server_of whole
  server_seen = ap (λ c. server_in (is_inside (state_of half.server)) (is_same_connection c half.server.connection)) (sym connection_whole)

  pub client_seen : (represented half).client ≡ (represented ends).client
  client_seen = client_represented half ∙ sym (client_represented ends)

  reports_seen : reports_given half ≡ reports_given whole
  reports_seen = ap (λ s. of_server s half.server.given) server_seen

  module _ (laws : EndLaws) (now : ℕ) (link : LinkState) (clock : reading_of whole.client.clock ≡ now) (link_is : whole.client.link ≡ settled now link) where
    link_passed : (between other : Link) → between ≡ represented half → other.client ≡ client_at now link → other.server ≡ between.server → other ≡ represented whole
    link_passed between other seen client server = link_represented other whole (client ∙ sym (laws.at_end now link whole.client clock link_is))
        (server ∙ ap (λ (l : Link). l.server) seen ∙ server_represented half ∙ server_seen)

    pub signal_passed : (host : HostState SignalState) (between other : MachineSignal) → IsSignalSeen half host between → other.link.client ≡ client_at now link → SignalStays between other
        → aspects_given other ≡ aspects_given between → IsSignalSeen whole host other
    signal_passed host between other seen client stays given = laws.signal_stays half whole host between other server_whole seen
        (link_passed between.link other.link seen.link client stays.server) (given ∙ seen.given ∙ ap aspects_in (sym given_whole)) (λ opened. stays.done)

    pub point_passed : (host : HostState PointState) (between other : MachinePoint) → IsPointSeen half host between → other.link.client ≡ client_at now link → PointStays between other
        → moves_given other ≡ moves_given between → IsPointSeen whole host other
    point_passed host between other seen client stays given = laws.point_stays half whole host between other server_whole seen
        (link_passed between.link other.link seen.link client stays.server) (given ∙ seen.given ∙ ap (λ g. length (moves_in g)) (sym given_whole)) (λ opened. stays.taken)
        (stays.reports ∙ seen.made ∙ ap reports_in reports_seen) stays.position stays.driven
