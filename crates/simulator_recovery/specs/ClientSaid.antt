-- What the clients of a station have given in their connections.
use Rattle.std.specs.Prelude.{◌≡◌, ◌⊎◌, ℕ, ◌+◌, ◌≤◌, not, true, List, [], ◌∷◌, length, map, Some, slice_get}
use Rattle.simulator_spec.specs.layout.Entries.{Site}
use Rattle.simulator_spec.specs.rasta_core.Each.{Each}
use Rattle.simulator_spec.specs.rasta_core.Links.{Links}
use Rattle.simulator_spec.specs.rasta_core.State.{is_open, is_up}
use Rattle.simulator_spec.specs.sci_telegram.Telegrams.{writing}
use Rattle.simulator_spec.specs.sci_telegram.declared.message.Initialisation.TheVariants.{InitialisationRequest, VersionCheck}
use Rattle.simulator_spec.specs.ixl_client.Client.{ClientState, PeerState, is_outside}
use Rattle.simulator_spec.specs.ixl_client.ItemsSaid.{item_of}
use Rattle.simulator_spec.specs.ixl_client.Step.{message_of, telegram_to}
use Rattle.simulator_spec.specs.ixl_client.declared.command.Command.{Command}
use Rattle.simulator_spec.specs.ixl_client.declared.command.Command.TheVariants as commands
use Rattle.simulator_spec.specs.ixl_client.declared.stage.Stage.{Stage}
use Rattle.simulator_spec.specs.ixl_client.declared.stage.Stage.TheVariants as stage
use Rattle.simulator_spec.specs.ixl_spec.State.{KnownDetectorState, KnownPointState, KnownSignalState}
use Rattle.simulator_spec.specs.ixl_spec.StepSoFar.{Detector, Node, Point, Signal}
use Rattle.simulator_spec.specs.Nodes.{detector_link, point_link}
use Rattle.simulator_spec.specs.State.{WorldState}
use Rattle.simulator_link_laws.specs.HasLinks.{HasLinks, links_in}
use Rattle.simulator_recovery.specs.Conversation.{ClientHasActedOn}
use Rattle.simulator_recovery.specs.Matched.{IsSpoken}

-- A command that a controller is given: a signal an aspect that the version of the station's telegrams has, a point a move, a detector
-- none.
abbrev pub IsGivenTo : Site → Node → Command → Type 0
IsGivenTo site (Signal place) (commands.Indicate aspect) = IsSpoken site aspect
IsGivenTo site (Point place) (commands.Move side) = Unit {0}
IsGivenTo site _ _ = ⊥

abbrev pub commanded : PeerState → Command → List ℕ
commanded peer command = writing (telegram_to peer (message_of command))

-- A point was given at most one move more than it has answered, where its client has taken so many items: these are the initialisation
-- and one report for each move answered.
abbrev pub AtMostOneWaits : Node → (objects moves taken : ℕ) → Type 0
AtMostOneWaits (Point place) objects moves taken = (moves ≡ 0) ⊎ (3 + objects + moves ≤ taken + 1)
AtMostOneWaits _ objects moves taken = Unit {0}

abbrev pub AllAnswered : Node → (objects moves taken : ℕ) → Type 0
AllAnswered (Point place) objects moves taken = 3 + objects + moves ≡ taken
AllAnswered _ objects moves taken = Unit {0}

abbrev pub OneWaits : Node → (objects moves taken : ℕ) → Type 0
OneWaits (Point place) objects moves taken = 3 + objects + moves ≡ taken + 1
OneWaits _ objects moves taken = Unit {0}

-- the check of the version, the request for the initialisation, and after them commands
pub record HasCommanded (site : Site) (node : Node) (peer : PeerState) (taken : ℕ) (items : List (List ℕ)) : Type 0 where
  pub commands : List Command
  pub each : Each (IsGivenTo site node) commands
  pub are : items ≡ item_of peer (VersionCheck peer.version) ∷ item_of peer InitialisationRequest ∷ map (commanded peer) commands
  pub waits : AtMostOneWaits node (length peer.objects) (length commands) taken

-- The items that a client has given in its connection, by its stage and by how many it has taken there. One that awaits states has taken
-- the answer of the version and *start*.
abbrev pub ClientHasSaid : Site → Node → PeerState → Stage → ℕ → List (List ℕ) → Type 0
ClientHasSaid site node peer stage.Outside taken items = items ≡ []
ClientHasSaid site node peer stage.AwaitsAnswer taken items = items ≡ item_of peer (VersionCheck peer.version) ∷ []
ClientHasSaid site node peer stage.AwaitsStart taken items = items ≡ item_of peer (VersionCheck peer.version) ∷ item_of peer InitialisationRequest ∷ []
ClientHasSaid site node peer (stage.AwaitsStatus left) taken items = (2 ≤ taken) × (items ≡ item_of peer (VersionCheck peer.version) ∷ item_of peer InitialisationRequest ∷ [])
ClientHasSaid site node peer stage.Completed taken items = (c : HasCommanded site node peer taken items) × AllAnswered node (length peer.objects) (length c.commands) taken
ClientHasSaid site node peer stage.AwaitsReport taken items = (c : HasCommanded site node peer taken items) × OneWaits node (length peer.objects) (length c.commands) taken

-- Those that it has given in its last connection, whether it is still in it or not.
pub data ClientSaid (site : Site) (node : Node) (peer : PeerState) (taken : ℕ) (items : List (List ℕ)) : Type 0 where
  nothing : items ≡ [] → ClientSaid site node peer taken items
  checked : items ≡ item_of peer (VersionCheck peer.version) ∷ [] → ClientSaid site node peer taken items
  asked : HasCommanded site node peer taken items → ClientSaid site node peer taken items

-- A client, and what was given and taken in its last connection: while its link is open its stage tells both.
pub record ClientTalks (site : Site) (node : Node) (client : ClientState) (given taken : List (List ℕ)) : Type 0 where
  pub outside : is_outside client.stage ≡ not (is_up client.link.phase)
  pub acted : is_open client.link.phase ≡ true → ClientHasActedOn client.peer client.stage (length taken)
  pub said : is_open client.link.phase ≡ true → ClientHasSaid site node client.peer client.stage (length taken) given
  pub ever : ClientSaid site node client.peer (length taken) given

-- All clients of a station, with what was given and taken at their ends of the links.
pub record AllTalk (site : Site) (world : WorldState) (network : Links) : Type 0 where
  pub signals : (place : ℕ) (known : KnownSignalState) → slice_get world.interlocking.ixl.known_signals place ≡ Some known
      → ClientTalks site (Signal place) known.client (network.ends place).client.given (network.ends place).client.taken
  pub points : (place : ℕ) (known : KnownPointState) → slice_get world.interlocking.ixl.known_points place ≡ Some known
      → ClientTalks site (Point place) known.client (network.ends (point_link site place)).client.given (network.ends (point_link site place)).client.taken
  pub detectors : (place : ℕ) (known : KnownDetectorState) → slice_get world.interlocking.ixl.detectors place ≡ Some known
      → ClientTalks site (Detector place) known.client (network.ends (detector_link site place)).client.given (network.ends (detector_link site place)).client.taken

-- the links of a station, and what its clients have given there
pub record HaveTalked (site : Site) (world : WorldState) : Type 0 where
  pub has : HasLinks site world
  pub talk : AllTalk site world (links_in has)
