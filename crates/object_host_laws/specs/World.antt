-- A commanding client, the host that is the server of its link, and the datagrams between them.
use Rattle.std.specs.Prelude.{◌≡◌, ℕ, ◌+◌, List, [], ◌∷◌, ◌++◌, Option, Some, None}
use Rattle.sci_telegram.specs.declared.telegram.Telegram.{Telegram}
use Rattle.rasta_core.specs.identity.Role.TheVariants as role
use Rattle.rasta_core.specs.Ends as calls
use Rattle.rasta_core.specs.Ends.{Call, outcome, kept, reading_of}
use Rattle.rasta_core.specs.Run.{Ends, called, later, lost, restarted}
use Rattle.rasta_core.specs.Events.{IsWithinDrift, MayCall, Start, started}
use Rattle.rasta_core.specs.Names.{Names, identity_of}
use Rattle.object_host.specs.Behaviour.{Behaviour}
use Rattle.object_host.specs.Host.{HostState, LinkCall, HostSoFar, Ticks, Closes, Sends, Receives}
use Rattle.object_host.specs.Hosted.{new_host}
use Rattle.object_host.specs.Made.{AreItems, commands_of}
use Rattle.object_host.specs.Step.{host_step}
use Rattle.object_host.specs.declared.input.Input.{Input}
use Rattle.object_host.specs.declared.input.Input.TheVariants as inputs
use Rattle.object_host.specs.declared.stage.Stage.{Stage}

pub record World (Object : Type 0) : Type 0 where
  -- the two ends of the link, of which the host is the server, and the datagrams between them
  pub ends : Ends
  pub stage : Stage
  pub object : Object
  pub own_name : List ℕ
  pub peer_name : List ℕ
  -- the version of the telegrams that the host speaks
  pub version : ℕ
  -- the items that the host acted on in its last connection, and the telegrams that the object was told there
  pub acted : List (List ℕ)
  pub told : List Telegram

-- what can happen
pub data Event (Object : Type 0) : Type 0 where
  -- the client is called
  Commands : Call → Event Object
  -- the host makes a step; of a datagram also the connection that it was sent in
  Steps : Input → ℕ → Event Object
  -- time goes on, and each clock
  Passes : ℕ → ℕ → ℕ → Event Object
  -- the network loses a copy of these bytes
  Loses : List ℕ → Event Object
  -- the client is made anew, with this clock in milliseconds and this first sequence number
  ClientRestarts : ℕ → ℕ → Event Object
  -- the host is made anew, with this clock and first sequence number, and with this object
  HostRestarts : ℕ → ℕ → Object → Event Object
  -- so many datagrams are sent on other links
  Elsewhere : ℕ → Event Object

-- a call of a host as a call of the server's end
abbrev pub as_call : ℕ → LinkCall → Call
as_call connection Ticks = calls.Ticks
as_call connection (Closes why) = calls.Closes why
as_call connection (Sends item) = calls.Sends item
as_call connection (Receives bytes) = calls.Receives bytes connection

-- calls of the server, one after another
unfoldable pub called_all : ℕ → List LinkCall → Ends → Ends
called_all connection [] ends = ends
called_all connection (first ∷ others) ends = called_all connection others (called role.Server (as_call connection first) ends)

-- the connection that the server enters in a step, if any: by a datagram alone
abbrev pub entering : Input → ℕ → Ends → Option ℕ
entering (inputs.Datagram bytes) connection ends = (outcome (calls.Receives bytes.now connection) ends.moment ends.server).enters
entering _ connection ends = None

-- the telegrams of the last connection: a new one begins with none
abbrev pub told_since : Option ℕ → List Telegram → List Telegram
told_since None told = told
told_since (Some entered) told = []

abbrev pub MayHear : Names → Input → ℕ → Ends → Type 0
MayHear names (inputs.Datagram bytes) connection ends = MayCall names role.Server (calls.Receives bytes.now connection) ends
MayHear names _ connection ends = Unit {0}

module _ {Object : Type 0} where
  -- the host in it
  abbrev pub host_of : World Object → HostState Object
  host_of world = record {
    link = world.ends.server.link;
    stage = world.stage;
    object = world.object;
    own_name = world.own_name;
    peer_name = world.peer_name;
    version = world.version;
  }

  -- the step that the host makes at its clock
  abbrev pub step_of : Behaviour Object → Input → World Object → HostSoFar Object
  step_of does input world = host_step does (reading_of world.ends.server.clock) input (host_of world)

  unfoldable pub stepped : Behaviour Object → Input → ℕ → World Object → World Object
  stepped does input connection world =
      let step = step_of does input world
      in record world {
        ends = called_all connection step.calls world.ends;
        stage = step.host.stage;
        object = step.host.object;
        acted = kept (entering input connection world.ends) world.acted ++ step.acted;
        told = told_since (entering input connection world.ends) world.told ++ step.told;
      }

  -- the host is made anew; what was told in its last connection stays until the next one
  unfoldable pub host_restarted : Behaviour Object → ℕ → ℕ → Object → World Object → World Object
  host_restarted does clock first_sequence_number object world =
      let made = new_host does world.ends.server.link.identity world.own_name world.peer_name first_sequence_number clock object world.version
      in record world {
        ends = restarted role.Server clock first_sequence_number world.ends;
        stage = made.stage;
        object = made.object;
      }

  unfoldable pub happened : Behaviour Object → Event Object → World Object → World Object
  happened does (Commands call) world = record world { ends = called role.Client call world.ends }
  happened does (Steps input connection) world = stepped does input connection world
  happened does (Passes elapsed of_client of_server) world = record world { ends = later elapsed of_client of_server world.ends }
  happened does (Loses bytes) world = record world { ends = lost bytes world.ends }
  happened does (ClientRestarts clock first_sequence_number) world = record world { ends = restarted role.Client clock first_sequence_number world.ends }
  happened does (HostRestarts clock first_sequence_number object) world = host_restarted does clock first_sequence_number object world
  happened does (Elsewhere count) world = record world { ends = record world.ends { moment = world.ends.moment + count } }

  -- the events that can happen: those of two ends; a step of a host takes what can be delivered
  abbrev pub May : Behaviour Object → Names → Event Object → World Object → Type 0
  May does names (Commands call) world = MayCall names role.Client call world.ends
  May does names (Steps input connection) world = MayHear names input connection world.ends × AreItems (step_of does input world).calls
  May does names (Passes elapsed of_client of_server) world = IsWithinDrift elapsed of_client × IsWithinDrift elapsed of_server
  May does names (Loses bytes) world = Unit {0}
  May does names (ClientRestarts clock first_sequence_number) world = Unit {0}
  May does names (HostRestarts clock first_sequence_number object) world = Unit {0}
  May does names (Elsewhere count) world = Unit {0}

  -- a list of events, one after another
  unfoldable pub run : Behaviour Object → List (Event Object) → World Object → World Object
  run does [] world = world
  run does (first ∷ others) world = run does others (happened does first world)

  unfoldable pub MayRun : Behaviour Object → Names → List (Event Object) → World Object → Type 0
  MayRun does names [] world = Unit {0}
  MayRun does names (first ∷ others) world = May does names first world × MayRun does names others (happened does first world)

  -- at the beginning nothing was sent or told
  abbrev pub begun : Behaviour Object → Names → Start → List ℕ → List ℕ → Object → ℕ → World Object
  begun does names start own_name peer_name object version =
      let made = new_host does (identity_of role.Server names) own_name peer_name start.server_first start.server_clock object version
      in record {
        ends = started names start;
        stage = made.stage;
        object = made.object;
        own_name = own_name;
        peer_name = peer_name;
        version = version;
        acted = [];
        told = [];
      }

-- In a connection that is the last of both ends, the object was told what a beginning of the items commands that the
-- client gave there, in order and each once.
pub record IsTold {Object : Type 0} (world : World Object) : Type 0 where
  pub rest : List (List ℕ)
  pub beginning : world.ends.client.given ≡ world.acted ++ rest
  pub told : world.told ≡ commands_of world.acted

abbrev pub IsToldInConnection : {Object : Type 0} → World Object → Type 0
IsToldInConnection world = (connection : ℕ) → world.ends.client.connection ≡ Some connection → world.ends.server.connection ≡ Some connection → IsTold world
