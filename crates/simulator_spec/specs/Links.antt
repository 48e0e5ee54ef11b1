-- A world as links over one list of datagrams. A world stores no lists of items, and for the interlocking no moment at
-- which it left a connection: so this is a relation.
use Rattle.std.specs.Prelude.{◌≡◌, ℕ, List, ◌++◌, map, Option, Some, slice_get, slice_index_or}
use Rattle.ixl_spec.specs.layout.Entries.{Site}
use Rattle.ixl_spec.specs.rasta_core.Clock.{settled}
use Rattle.ixl_spec.specs.rasta_core.Ends.{EndState, reading_of}
use Rattle.ixl_spec.specs.rasta_core.Links.{Links, LinksStart}
use Rattle.ixl_spec.specs.rasta_core.Names.{Names}
use Rattle.ixl_spec.specs.rasta_core.State.{LinkState}
use Rattle.ixl_spec.specs.State.{IxlState}
use Rattle.simulator_spec.specs.Nodes.{names_of, partners}
use Rattle.simulator_spec.specs.State.{ClockedControllerState, WorldState}

-- the names of the links, in their order
abbrev pub names_at : Site → ℕ → Names
names_at site link = names_of site (slice_index_or (partners site) link 0)

-- the interlocking's ends of all links
abbrev pub client_links : IxlState → List LinkState
client_links ixl =
    map (λ lamp. lamp.client.link) ixl.known_signals
    ++ (map (λ known_point. known_point.client.link) ixl.known_points ++ map (λ detector. detector.client.link) ixl.detectors)

-- what a world keeps of the server of a link
pub record ServerEnd : Type 0 where
  pub link : LinkState
  pub clock : ℕ
  pub connection : Option ℕ
  pub left : ℕ

abbrev pub end_of_server : {Object : Type 0} → ClockedControllerState Object → ServerEnd
end_of_server server = record { link = server.host.link; clock = server.clock; connection = server.connection; left = server.left }

abbrev pub server_ends : WorldState → List ServerEnd
server_ends world = map end_of_server world.signals ++ (map end_of_server world.points ++ map end_of_server world.detectors)

-- An end is the interlocking's end of this link: what the clock rules do is done.
pub record IsClientAt (world : WorldState) (link : ℕ) (end : EndState) : Type 0 where
  pub kept : LinkState
  pub there : slice_get (client_links world.interlocking.ixl) link ≡ Some kept
  pub link_is : end.link ≡ settled (reading_of world.interlocking.clock) kept
  pub clock_is : end.clock ≡ world.interlocking.clock
  pub connection_is : slice_get world.interlocking.connections link ≡ Some end.connection

-- An end is the controller's end of this link.
pub record IsServerAt (world : WorldState) (link : ℕ) (end : EndState) : Type 0 where
  pub kept : ServerEnd
  pub there : slice_get (server_ends world) link ≡ Some kept
  pub link_is : end.link ≡ settled (reading_of kept.clock) kept.link
  pub clock_is : end.clock ≡ kept.clock
  pub connection_is : end.connection ≡ kept.connection
  pub left_is : end.left ≡ kept.left

-- Links are those of a world: the same time and datagrams, and the ends of each link.
pub record AreLinksOf (site : Site) (world : WorldState) (links : Links) : Type 0 where
  pub time_is : links.time ≡ world.time
  pub sent_is : links.sent ≡ world.sent
  pub clients : (link id : ℕ) → slice_get (partners site) link ≡ Some id → IsClientAt world link (links.ends link).client
  pub servers : (link id : ℕ) → slice_get (partners site) link ≡ Some id → IsServerAt world link (links.ends link).server

-- all clocks and first sequence numbers are 0
abbrev pub starts_at_zero : LinksStart
starts_at_zero = record {
  time = 0;
  client_clock = λ link. 0;
  client_first = λ link. 0;
  server_clock = λ link. 0;
  server_first = λ link. 0;
}
