-- What the two ends of a link of a station expect of each other, by how far the connection has come, as a host sees it; a client's
-- part stands beside the client. And what an end does that closes nothing.
use Rattle.std.specs.Prelude.{◌≡◌, ℕ, ◌+◌, ◌≤◌, ◌<◌, false, true, length, is_ok, IsTrue, List, [], ◌∷◌, ◌++◌, Some, Result, Ok, Err}
use Rattle.simulator_spec.specs.sci_telegram.Messages.{protocol_of}
use Rattle.simulator_spec.specs.sci_telegram.Names.{IsName}
use Rattle.simulator_spec.specs.sci_telegram.declared.fault.SciFault.{SciFault}
use Rattle.simulator_spec.specs.sci_telegram.declared.message.Initialisation.TheVariants.{InitialisationRequest, VersionCheck}
use Rattle.simulator_spec.specs.sci_telegram.declared.message.Message.{Message}
use Rattle.simulator_spec.specs.sci_telegram.declared.message.Message.TheVariants as message
use Rattle.simulator_spec.specs.sci_telegram.declared.message.Protocol.{Protocol}
use Rattle.simulator_spec.specs.sci_telegram.declared.telegram.Telegram.{Telegram}
use Rattle.object_host_laws.specs.World.{World}
use Rattle.simulator_spec.specs.rasta_core.Calls.{answer_to_send, sending_item}
use Rattle.simulator_spec.specs.rasta_core.Clock.{deadline, settled}
use Rattle.simulator_spec.specs.rasta_core.Each.{Each}
use Rattle.simulator_spec.specs.rasta_core.Ends.{reading_of}
use Rattle.simulator_spec.specs.rasta_core.Parameters.{connection_limit, window_size}
use Rattle.simulator_spec.specs.rasta_core.State.{LinkState, is_open, is_up}
use Rattle.simulator_spec.specs.object_host.Behaviour.{Behaviour}
use Rattle.simulator_spec.specs.object_host.Host as hosts
use Rattle.simulator_spec.specs.object_host.Host.{HostSoFar, HostState, sender_of}
use Rattle.simulator_spec.specs.object_host.Made.{is_command}
use Rattle.simulator_spec.specs.object_host.Step.{is_in_version, is_same_protocol}
use Rattle.simulator_spec.specs.object_host.declared.report.Report.{Report}
use Rattle.simulator_spec.specs.object_host.declared.stage.Stage.{Stage}
use Rattle.simulator_spec.specs.object_host.declared.stage.Stage.TheVariants as stage
use Rattle.simulator_spec.specs.ixl_client.Client.{PeerState, is_outside}
use Rattle.simulator_spec.specs.ixl_client.ClientSoFar as clients
use Rattle.simulator_spec.specs.ixl_client.ClientSoFar.{ClientSoFar}
use Rattle.simulator_spec.specs.ixl_client.Meaning.{is_in_version as tells_in_version, place_of, state_in}
use Rattle.simulator_spec.specs.ixl_client.Step.{is_refused_by_window}
use Rattle.simulator_spec.specs.ixl_client.declared.indication.ObjectState.{ObjectState}
use Rattle.simulator_spec.specs.ixl_client.declared.stage.Stage.{Stage as ClientStage}
use Rattle.simulator_spec.specs.ixl_client.declared.stage.Stage.TheVariants as client_stages

-- ---- what a host expects

-- a telegram in the object's protocol and of the host's version, from its peer and for it
pub record IsForHost {Object : Type 0} (does : Behaviour Object) (host : HostState Object) (telegram : Telegram) : Type 0 where
  pub protocol : IsTrue (is_same_protocol (protocol_of telegram.message) does.protocol)
  pub sender : telegram.sender ≡ host.peer_name
  pub receiver : telegram.receiver ≡ host.own_name
  pub version : IsTrue (is_in_version host.version telegram.message)

-- the check of its version, then the request for the initialisation, and then commands that fit the object
abbrev pub HostExpects : {Object : Type 0} → Behaviour Object → ℕ → HostState Object → Telegram → Stage → Message → Type 0
HostExpects does now host telegram stage.Outside told = ⊥
HostExpects does now host telegram stage.AwaitsCheck told = (protocol : Protocol) × (told ≡ message.Initialisation protocol (VersionCheck host.version))
HostExpects does now host telegram stage.AwaitsRequest told = (protocol : Protocol) × (told ≡ message.Initialisation protocol InitialisationRequest)
HostExpects does now host telegram stage.Completed told = (is_command told ≡ true) × (does.accepts now telegram host.object ≡ true)
HostExpects does now host telegram stage.Refused told = ⊥

abbrev pub HostExpectsItem : {Object : Type 0} → Behaviour Object → ℕ → HostState Object → Result Telegram SciFault → Type 0
HostExpectsItem does now host (Ok telegram) = IsForHost does host telegram × HostExpects does now host telegram host.stage telegram.message
HostExpectsItem does now host (Err fault) = ⊥

-- ---- what closes nothing

-- an item is given to the link
abbrev pub HostGives : hosts.LinkCall → Type 0
HostGives (hosts.Sends item) = Unit {0}
HostGives _ = ⊥

abbrev pub ClientGives : clients.LinkCall → Type 0
ClientGives (clients.Sends item) = Unit {0}
ClientGives _ = ⊥

-- A host acted on an item: it gave items to its link at most.
pub record HostActs {Object : Type 0} (item : List ℕ) (part : HostSoFar Object) : Type 0 where
  pub acted : part.acted ≡ item ∷ []
  pub gives : Each HostGives part.calls

-- A client acted on an item: it gave items to its link at most, where the window didn't refuse one.
pub record ClientActs (now : ℕ) (item : List ℕ) (before after : ClientSoFar) : Type 0 where
  pub acted : after.acted ≡ before.acted ++ item ∷ []
  pub more : List clients.LinkCall
  pub calls : after.calls ≡ before.calls ++ more
  pub gives : is_refused_by_window (answer_to_send now before.client.link) ≡ false → Each ClientGives more

-- ---- two ends that belong together

-- A client and the host of its controller have each other's names, one version and one protocol.
pub record AreMatched {Object : Type 0} (does : Behaviour Object) (peer : PeerState) (host : HostState Object) : Type 0 where
  pub own_name : host.peer_name ≡ peer.own_name
  pub name : host.own_name ≡ peer.name
  pub version : host.version ≡ peer.version
  pub protocol : does.protocol ≡ peer.protocol

-- A report of a host tells the state of the object at this place of those of which the client hears.
pub record ReportsState {Object : Type 0} (peer : PeerState) (host : HostState Object) (report : Report) (place : ℕ) : Type 0 where
  pub name : IsName (sender_of report.section host.own_name)
  pub of : place_of peer (sender_of report.section host.own_name) ≡ Some place
  pub state : ObjectState
  pub told : state_in report.message ≡ Some state
  pub protocol : protocol_of report.message ≡ peer.protocol
  pub version : IsTrue (tells_in_version peer.version state)

-- ---- how far a connection has come

-- The stage of a host tells how many items it has acted on in its connection: none, the check, or at least the check and the request.
abbrev pub HostHasActedOn : Stage → ℕ → Type 0
HostHasActedOn stage.Outside count = count ≡ 0
HostHasActedOn stage.AwaitsCheck count = count ≡ 0
HostHasActedOn stage.AwaitsRequest count = count ≡ 1
HostHasActedOn stage.Completed count = 2 ≤ count
HostHasActedOn stage.Refused count = count ≡ 1

-- So does that of a client: none, the answer, *start* and some states, or at least all of the initialisation.
abbrev pub ClientHasActedOn : PeerState → ClientStage → ℕ → Type 0
ClientHasActedOn peer client_stages.Outside count = count ≡ 0
ClientHasActedOn peer client_stages.AwaitsAnswer count = count ≡ 0
ClientHasActedOn peer client_stages.AwaitsStart count = count ≡ 1
ClientHasActedOn peer (client_stages.AwaitsStatus left) count = count + left ≡ 2 + length peer.objects
ClientHasActedOn peer client_stages.Completed count = 3 + length peer.objects ≤ count
ClientHasActedOn peer client_stages.AwaitsReport count = 3 + length peer.objects ≤ count

-- A step of a client counts on, where the client is inside after it.
abbrev pub KeepsCount : ClientSoFar → ClientSoFar → Type 0
KeepsCount before after = (count : ℕ) → ClientHasActedOn before.client.peer before.client.stage (count + length before.acted) → is_outside after.client.stage ≡ false
    → ClientHasActedOn before.client.peer after.client.stage (count + length after.acted)

-- While the link of a host is open, its stage tells how many items it has acted on in its connection.
abbrev pub StandsAtItsStage : {Object : Type 0} → World Object → Type 0
StandsAtItsStage world = is_open world.ends.server.link.phase ≡ true → HostHasActedOn world.stage (length world.acted)

-- the clock rules of its end are applied
abbrev pub IsSettled : {Object : Type 0} → World Object → Type 0
IsSettled world = settled (reading_of world.ends.server.clock) world.ends.server.link ≡ world.ends.server.link

-- A link has room for so many items more: it is up and lives on, its window has room for them, and with their PDUs it doesn't come to
-- the limit of a connection.
pub record HasRoomFor (now count : ℕ) (link : LinkState) : Type 0 where
  pub up : is_up link.phase ≡ true
  pub lives : now < deadline link
  pub window : length link.waiting + count ≤ window_size
  pub limit : link.sent + count ≤ connection_limit

-- what an initialisation says at most: *start*, the state of each of 16 objects, *completed*
abbrev pub most_said : ℕ
most_said = 18

-- An item is accepted, and there is room for so many after it.
pub record Accepts (now count : ℕ) (item : List ℕ) (link : LinkState) : Type 0 where
  pub accepted : is_ok (answer_to_send now link) ≡ true
  pub rest : HasRoomFor now count (sending_item now item link).link
