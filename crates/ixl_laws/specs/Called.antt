-- What a step is to the link of each controller: a list of calls of this link, at the step's clock.
use Rattle.std.specs.Prelude.{◌≡◌, ◌&&◌, ℕ, Bool, true, List, [], ◌∷◌, ◌++◌, map, Option, Some, None, is_some, slice_get, if◌then◌else◌}
use Rattle.ixl_state.specs.rasta_core.Calls.{receiving}
use Rattle.ixl_state.specs.rasta_core.Clock.{settled}
use Rattle.ixl_state.specs.rasta_core.State.{LinkState, is_open}
use Rattle.ixl_state.specs.rasta_pdu.PduRead.{reading}
use Rattle.ixl_state.specs.ixl_client.Client.{ClientState}
use Rattle.ixl_state.specs.ixl_client.Made.{AreOwn, outbox_after}
use Rattle.ixl_state.specs.ixl_client.ClientSoFar.{LinkCall, Closes, Opens, Receives, Sends, Ticks, call_made}
use Rattle.ixl_state.specs.ixl_spec.StepSoFar.{Detector, Node, Point, Signal, empty_outbox}
use Rattle.ixl_state.specs.ixl_spec.Step.{Commands, Datagram, Input, Tick, addressed, all_clocked, client_at}
use Rattle.ixl_state.specs.ixl_spec.Table.{Table}
use Rattle.ixl_state.specs.First.{key_of}
use Rattle.ixl.specs.Interlocking.{InterlockingState, step_of}
use Rattle.ixl_laws.specs.Nodes.{is_node, of_node}

-- ---- what calls take and hand out

abbrev pub taken_by : ℕ → LinkCall → LinkState → List (List ℕ)
taken_by now Opens link = []
taken_by now Ticks link = []
taken_by now (Closes why) link = []
taken_by now (Sends item) link = []
taken_by now (Receives bytes) link = (receiving now bytes link).items

-- the items that a list of calls takes, one call after another
unfoldable pub items_taken : ℕ → List LinkCall → LinkState → List (List ℕ)
items_taken now [] link = []
items_taken now (first ∷ others) link = taken_by now first link ++ items_taken now others (call_made now first link).link

-- and the datagrams that it hands out
abbrev pub datagrams_of : ℕ → List LinkCall → LinkState → List (List ℕ)
datagrams_of now calls link = (outbox_after now calls link empty_outbox).datagrams

-- ---- what a step does at one controller

-- the calls that it makes of the controller's link, oldest first
abbrev pub calls_at : ℕ → Input → InterlockingState → Node → List LinkCall
calls_at now input old node = of_node node (step_of now input old.state).calls

-- the items that it acts on
abbrev pub acted_at : ℕ → Input → InterlockingState → Node → List (List ℕ)
acted_at now input old node = of_node node (step_of now input old.state).acted

-- a detector is heard where the table lists its sections, as every table does that was made from a layout
abbrev pub is_listed : Table → Node → Bool
is_listed table (Signal place) = true
is_listed table (Point place) = true
is_listed table (Detector place) = is_some (slice_get table.detectors place)

abbrev pub receipt_by : Table → List ℕ → Option Node → Node → List LinkCall
receipt_by table bytes None node = []
receipt_by table bytes (Some sender) node = if is_node node sender && is_listed table node then Receives bytes ∷ [] else []

-- a datagram is received by the link of the controller that it names as its sender, and nothing by any other
abbrev pub receipt_at : ℕ → Input → InterlockingState → Node → List LinkCall
receipt_at now Tick old node = []
receipt_at now (Commands command) old node = []
receipt_at now (Datagram bytes) old node =
    receipt_by old.state.sited.table bytes (addressed (reading (key_of old.state.sited.site) bytes) (all_clocked now old.state.ixl)) node

-- the receipt comes first, and no other call takes anything
pub record ReceivesFirst (receipt calls : List LinkCall) : Type 0 where
  pub own : List LinkCall
  pub calls_are : calls ≡ receipt ++ own
  pub take_nothing : AreOwn own

-- The items acted on are a beginning of those taken, and all of them where the link is open after the step.
pub record ActsOnTaken (taken acted : List (List ℕ)) (after : LinkState) : Type 0 where
  pub dropped : List (List ℕ)
  pub beginning : taken ≡ acted ++ dropped
  pub whole : is_open after.phase ≡ true → dropped ≡ []

-- a controller with this client stays, and the client speaks with the same controller
pub record Stays (node : Node) (before : ClientState) (new : InterlockingState) : Type 0 where
  pub after : ClientState
  pub there : client_at node new.state.ixl ≡ Some after
  pub same : after.peer ≡ before.peer

-- where there is no controller none comes, and no link is called
pub record IsNobody (now : ℕ) (input : Input) (old new : InterlockingState) (node : Node) : Type 0 where
  pub none : client_at node new.state.ixl ≡ None
  pub calls : calls_at now input old node ≡ []

-- ---- what a step hands out

-- Each datagram of the outbox was handed out by a controller's link, and those of one link are what its calls hand out, in
-- their order.
pub record HandsOut (now : ℕ) (input : Input) (old new : InterlockingState) : Type 0 where
  pub sent : List (Node × List ℕ)
  pub outbox : new.outbox.datagrams ≡ map (λ one. one.1) sent
  pub each : (node : Node) (before : ClientState) → client_at node old.state.ixl ≡ Some before
      → of_node node sent ≡ datagrams_of now (calls_at now input old node) (settled now before.link)
  pub nobody : (node : Node) → client_at node old.state.ixl ≡ None → of_node node sent ≡ []
