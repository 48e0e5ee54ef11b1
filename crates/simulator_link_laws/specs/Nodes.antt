-- The ends of a link, as the nodes at them keep them.
use Rattle.std.specs.Prelude.{◌≡◌, ℕ, ◌<◌, List}
use Rattle.simulator_spec.specs.layout.Entries.{Site}
use Rattle.simulator_spec.specs.rasta_core.Clock.{settled}
use Rattle.simulator_spec.specs.rasta_core.Ends.{EndState, Receives, reading_of}
use Rattle.simulator_spec.specs.rasta_core.Links.{Links, MayCallOn}
use Rattle.simulator_spec.specs.ixl_client.Client.{ClientState}
use Rattle.simulator_spec.specs.ixl_spec.Step.{Input, Datagram}
use Rattle.simulator_spec.specs.Links.{names_at}
use Rattle.simulator_spec.specs.Nodes.{links}
use Rattle.simulator_spec.specs.State.{ClockedControllerState, ClockedInterlockingState}
use Rattle.simulator_link_laws.specs.Whole.{IsPeer}

-- An end is a controller's: it has the clock of the controller, the last connection that it entered, and its link, once the
-- clock rules are applied.
pub record IsEndOfServer {Object : Type 0} (server : ClockedControllerState Object) (end : EndState) : Type 0 where
  pub link_is : end.link ≡ settled (reading_of server.clock) server.host.link
  pub clock_is : end.clock ≡ server.clock
  pub connection_is : end.connection ≡ server.connection

-- An end is that of a client of the interlocking, whose telegrams can be read.
pub record IsEndOfClient (station : ClockedInterlockingState) (client : ClientState) (end : EndState) : Type 0 where
  pub link_is : end.link ≡ settled (reading_of station.clock) client.link
  pub clock_is : end.clock ≡ station.clock
  pub peer : IsPeer client.peer

-- The datagram that comes with an input may come at the interlocking's end of each link.
abbrev pub MayComeWith : Site → Input → (connection : ℕ) → Links → Type 0
MayComeWith site input connection before =
    (bytes : List ℕ) → input ≡ Datagram bytes → (link : ℕ) → link < links site → MayCallOn (names_at site link) (Receives bytes connection) before
