-- In which order a step calls links and hands out datagrams.
use Rattle.std.specs.Prelude.{◌≡◌, ◌⊎◌, ℕ, zero, suc, List, [], ◌∷◌, ◌++◌, length, map, Option, Some, None, option_map, if◌then◌else◌}
use Rattle.ixl_state.specs.rasta_core.Clock.{settled}
use Rattle.ixl_state.specs.rasta_core.State.{LinkState}
use Rattle.ixl_state.specs.rasta_core.reason.Reason.TheVariants as reason
use Rattle.ixl_state.specs.sci_telegram.Telegrams.{writing}
use Rattle.ixl_state.specs.sci_telegram.declared.message.Aspect.TheVariants as aspects
use Rattle.ixl_state.specs.rasta_pdu.PduRead.{reading}
use Rattle.ixl_state.specs.ixl_client.Client.{ClientState}
use Rattle.ixl_state.specs.ixl_client.ClientSoFar.{LinkCall, Closes, Opens, Receives, Sends, Ticks, call_made}
use Rattle.ixl_state.specs.ixl_client.Step.{message_of, telegram_to}
use Rattle.ixl_state.specs.ixl_client.declared.command.Command.{Command}
use Rattle.ixl_state.specs.ixl_client.declared.command.Command.TheVariants as commands
use Rattle.ixl_state.specs.ixl_spec.declared.command.Command.{Command as Wanted}
use Rattle.ixl_state.specs.ixl_spec.declared.command.Command.TheVariants as wanted
use Rattle.ixl_state.specs.ixl_spec.State.{IxlState}
use Rattle.ixl_state.specs.ixl_spec.StepSoFar.{Detector, Node, Point, Signal}
use Rattle.ixl_state.specs.ixl_spec.Step.{Commands, Datagram, Input, Tick, addressed, all_clocked, client_at}
use Rattle.ixl_state.specs.ixl_spec.Table.{Need, Row}
use Rattle.ixl_state.specs.First.{key_of}
use Rattle.ixl.specs.Interlocking.{InterlockingState, step_of}
use Rattle.ixl_laws.specs.Called.{ReceivesFirst, datagrams_of}
use Rattle.ixl_laws.specs.Nodes.{is_node}

-- ---- datagrams stand in the order of the calls that hand them out

-- each controller's link, once the clock has acted
abbrev pub links_at : ℕ → IxlState → Node → Option LinkState
links_at now ixl node = option_map (λ (client : ClientState). settled now client.link) (client_at node ixl)

-- a call changes the link of its controller
abbrev pub links_behind : ℕ → Node × LinkCall → (Node → Option LinkState) → Node → Option LinkState
links_behind now call links node =
    if is_node node call.0 then option_map (λ (link : LinkState). (call_made now call.1 link).link) (links node) else links node

abbrev pub datagrams_by : ℕ → LinkCall → Option LinkState → List (List ℕ)
datagrams_by now call None = []
datagrams_by now call (Some link) = datagrams_of now (call ∷ []) link

-- What calls of several links hand out, one call after another.
unfoldable pub handed_out : ℕ → List (Node × LinkCall) → (Node → Option LinkState) → List (List ℕ)
handed_out now [] links = []
handed_out now (first ∷ others) links = datagrams_by now first.1 (links first.0) ++ handed_out now others (links_behind now first links)

-- ---- and calls in the order of the step

-- Calls of one controller's link that are made one after the other.
pub record CallsAtLink : Type 0 where
  pub node : Node
  pub calls : List LinkCall

abbrev pub calls_of : List CallsAtLink → List (Node × LinkCall)
calls_of [] = []
calls_of (first ∷ others) = map (λ call. (first.node, call)) first.calls ++ calls_of others

-- groups of each of a list, in the order of the list
abbrev pub InOrderOf : {A : Type 0} → (A → List CallsAtLink → Type 0) → List A → List CallsAtLink → Type 0
InOrderOf AreOf [] groups = groups ≡ []
InOrderOf AreOf (first ∷ others) groups =
    (own : List CallsAtLink) × (rest : List CallsAtLink) × (groups ≡ own ++ rest) × AreOf first own × InOrderOf AreOf others rest

-- one group, or none
abbrev pub AtMostOne : (CallsAtLink → Type 0) → List CallsAtLink → Type 0
AtMostOne Is groups = (groups ≡ []) ⊎ ((group : CallsAtLink) × (groups ≡ group ∷ []) × Is group)

-- A command's telegram is sent to a controller; where the window refuses it, the link is closed with reason 5.
pub record Gives (ixl : IxlState) (to : Node) (command : Command) (group : CallsAtLink) : Type 0 where
  pub there : group.node ≡ to
  pub client : ClientState
  pub kept : client_at to ixl ≡ Some client
  pub calls : (group.calls ≡ Sends (writing (telegram_to client.peer (message_of command))) ∷ [])
      ⊎ (group.calls ≡ Sends (writing (telegram_to client.peer (message_of command))) ∷ Closes reason.Window ∷ [])

-- a command calls no link, but a move that of its point
abbrev pub AreOfCommand : IxlState → Wanted → List CallsAtLink → Type 0
AreOfCommand ixl (wanted.Move point side) groups = AtMostOne (Gives ixl (Point point.0) (commands.Move side)) groups
AreOfCommand ixl _ groups = groups ≡ []

-- a datagram is received by its sender's link, and is answered
abbrev pub AreOfInput : ℕ → Input → InterlockingState → List CallsAtLink → Type 0
AreOfInput now Tick old groups = groups ≡ []
AreOfInput now (Commands command) old groups = AreOfCommand old.state.ixl command groups
AreOfInput now (Datagram bytes) old groups = AtMostOne (λ group.
    (addressed (reading (key_of old.state.sited.site) bytes) (all_clocked now old.state.ixl) ≡ Some group.node) × ReceivesFirst (Receives bytes ∷ []) group.calls) groups

-- the stop, the moves and the aspect of one route: its points stand in layout order
abbrev pub IsStopOf : IxlState → Row → List CallsAtLink → Type 0
IsStopOf ixl row = AtMostOne (Gives ixl (Signal row.entry) (commands.Indicate aspects.Stop))

abbrev pub AreMovesOf : IxlState → Row → List CallsAtLink → Type 0
AreMovesOf ixl row = InOrderOf (λ (need : Need). AtMostOne (Gives ixl (Point need.point) (commands.Move need.side))) row.needs

abbrev pub IsProceedOf : IxlState → Row → List CallsAtLink → Type 0
IsProceedOf ixl row = AtMostOne (Gives ixl (Signal row.entry) (commands.Indicate row.aspect))

-- on a tick each link is ticked and then opened: signals, points, detectors
abbrev pub beats : (ℕ → Node) → ℕ → List CallsAtLink
beats node zero = []
beats node (suc n) = beats node n ++ record { node = node n; calls = Ticks ∷ Opens ∷ [] } ∷ []

abbrev pub beats_of : Input → IxlState → List CallsAtLink
beats_of Tick ixl = beats Signal (length ixl.known_signals) ++ beats Point (length ixl.known_points) ++ beats Detector (length ixl.detectors)
beats_of (Commands command) ixl = []
beats_of (Datagram bytes) ixl = []

-- First come the calls of the input; then stops, moves and the aspects of routes, each of these for all routes in table
-- order; then, on a tick, the heartbeat and the opening of each link.
pub record CallsInOrder (now : ℕ) (input : Input) (old : InterlockingState) : Type 0 where
  pub heard : List CallsAtLink
  pub stops : List CallsAtLink
  pub moves : List CallsAtLink
  pub proceeds : List CallsAtLink
  pub calls : (step_of now input old.state).calls ≡ calls_of (heard ++ stops ++ moves ++ proceeds ++ beats_of input old.state.ixl)
  pub heard_are : AreOfInput now input old heard
  pub stops_are : InOrderOf (IsStopOf old.state.ixl) old.state.sited.table.rows stops
  pub moves_are : InOrderOf (AreMovesOf old.state.ixl) old.state.sited.table.rows moves
  pub proceeds_are : InOrderOf (IsProceedOf old.state.ixl) old.state.sited.table.rows proceeds
