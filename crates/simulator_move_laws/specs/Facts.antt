-- What the laws of a step take of the links and of the far ends: each is a fact of the link's theorem, or of what the
-- controllers report.
use Rattle.std.specs.Prelude.{◌≡◌, ◌≢◌, ◌⊎◌, ◌-◌, ◌≤◌, ◌<◌, ℕ, nat_lt, true, List, [], ◌∷◌, ◌++◌, length, Some, slice_get}
use Rattle.ixl_spec.specs.sci_telegram.declared.message.Message.{Message}
use Rattle.ixl_spec.specs.rasta_core.Clock.{deadline, settled, state_at}
use Rattle.ixl_spec.specs.rasta_core.Parameters.{greatest}
use Rattle.ixl_spec.specs.rasta_core.State.{LinkState, confirmed_items, is_open, is_up}
use Rattle.ixl_spec.specs.rasta_core.phase.State.TheVariants as state
use Rattle.ixl_spec.specs.ixl_client.Client.{PeerState}
use Rattle.ixl_spec.specs.ixl_client.Made.{link_after}
use Rattle.ixl_spec.specs.ixl_client.ClientSoFar.{LinkCall, Opens, Ticks, Closes, Sends, Receives}
use Rattle.ixl_spec.specs.State.{IxlState, KnownSignalState, KnownPointState}
use Rattle.ixl_spec.specs.Step.{Input, Datagram}
use Rattle.simulator_machine.specs.Link.{Before, In, Gone, Link}
use Rattle.simulator_machine.specs.Machine.{Machine}
use Rattle.simulator_machine.specs.Point.{Point, Position, reports_made}
use Rattle.simulator_machine.specs.Signal.{Signal}
use Rattle.simulator_move_laws.specs.Calls.{Items, items_after}
use Rattle.simulator_move_laws.specs.Nodes.{openings}
use Rattle.simulator_move_laws.specs.Sees.{Given}
use Rattle.simulator_move_laws.specs.Telegrams.{item_of, positions_told}

-- A call that a client can make of its link in a step with this input, before the opening with which the step may end: it
-- receives the input's datagram, and sends telegrams.
abbrev pub IsCallIn : Input → PeerState → LinkCall → Type 0
IsCallIn input peer Opens = ⊥
IsCallIn input peer Ticks = Unit {0}
IsCallIn input peer (Closes why) = Unit {0}
IsCallIn input peer (Sends item) = (told : Message) × (item ≡ item_of peer told)
IsCallIn input peer (Receives bytes) = input ≡ Datagram bytes

abbrev pub AreCallsIn : Input → PeerState → List LinkCall → Type 0
AreCallsIn input peer [] = Unit {0}
AreCallsIn input peer (first ∷ others) = IsCallIn input peer first × AreCallsIn input peer others

-- Of a client's link at its clock, what it gave and took, and the server as the machine has it.
pub record LinkFacts (now : ℕ) (link : LinkState) (items : Items) (seen : Link) : Type 0 where
  -- a client that is up was answered: the server has entered its connection
  pub up : is_up link.phase ≡ true → seen.server ≢ Before
  -- when the client's quiet time is over no server is in the connection
  pub quiet : state_at now link ≡ state.Down → seen.server ≢ In
  -- a link whose time has come has closed
  pub alive : is_open link.phase ≡ true → nat_lt now (deadline link) ≡ true
  -- the link counts the items that it gave
  pub counted : is_open link.phase ≡ true → link.given ≡ length items.given

pub record SignalFacts (now : ℕ) (link : LinkState) (items : Items) (signal : Signal) : Type 0 where
  pub ends : LinkFacts now link items signal.link
  -- the aspects among the items confirmed were acted on, until the controller leaves
  pub confirmed : is_up link.phase ≡ true → (signal.link.server ≡ Gone) ⊎ (confirmed_items link - openings ≤ length signal.done)

pub record PointFacts (now : ℕ) (peer : PeerState) (link : LinkState) (items : Items) (point : Point) : Type 0 where
  pub ends : LinkFacts now link items point.link
  -- what the items taken tell is a beginning of what was reported
  pub reports : is_open link.phase ≡ true → (rest : List Position) × (reports_made point ≡ positions_told peer items.taken ++ rest)

-- In every state of a link that the calls of a step at this clock lead to, this holds of the link, and of what its client
-- gave and took by then.
abbrev pub Throughout : ℕ → Input → PeerState → LinkState → Items → (LinkState → Items → Type 0) → Type 0
Throughout now input peer link items Holds =
    (calls : List LinkCall) → AreCallsIn input peer calls → Holds (link_after now calls (settled now link)) (items_after now calls (settled now link) items)

-- What is known of the far ends in a step.
pub record FarEnds (now : ℕ) (input : Input) (ixl : IxlState) (given : Given) (machine : Machine) : Type 0 where
  pub clock : now < greatest
  pub signals : (place : ℕ) (known_signal : KnownSignalState) → slice_get ixl.known_signals place ≡ Some known_signal
      → Throughout now input known_signal.client.peer known_signal.client.link (given.signals place) (λ link items. SignalFacts now link items (machine.signals place))
  pub points : (place : ℕ) (known_point : KnownPointState) → slice_get ixl.known_points place ≡ Some known_point
      → Throughout now input known_point.client.peer known_point.client.link (given.points place) (λ link items. PointFacts now known_point.client.peer link items (machine.points place))
