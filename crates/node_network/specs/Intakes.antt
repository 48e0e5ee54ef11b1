-- What the intake of a node's socket takes and hands out.
use Rattle.std.specs.Prelude.{◌≡◌, ℕ, Bool, true, false, List, [], ◌∷◌, Option, Some, None, IsSomeAnd, is_some, if◌then◌else◌}
use Rattle.std.specs.declared.net.socket_addr.SocketAddr.{SocketAddr}
use Rattle.datagram_hold.specs.Came.{Came}
use Rattle.datagram_hold.specs.Intake.{AsksAt, FindsEmpty, Forgets, IntakeCall, IntakeState, ReadsClock, TakesFrom, first_ready, intake_run, is_fresh}
use Rattle.datagram_hold.specs.declared.network.Network.{Network}
use Rattle.datagram_hold.specs.declared.network.Network.TheVariants.{First, Second}
use Rattle.node_drive.specs.Calls as calls
use Rattle.node_drive.specs.declared.budget.TheConstants.{LONGEST_UNSEEN}
use Rattle.node_drive.specs.declared.outside.Network.{Network as Over}
use Rattle.node_drive.specs.declared.outside.Network.TheVariants as over
use Rattle.node_drive.specs.declared.outside.NextDatagram.{NextDatagram}
use Rattle.node_drive.specs.declared.outside.Origin.{Origin}
use Rattle.node_drive.specs.simulator_event.layout.declared.ids.NodeId.{NodeId}
use Rattle.node_network.specs.Places.{IsNodeOf}

-- The addresses of all nodes in the first network, or the only one, and in the second, where there are two.
pub record Places : Type 0 where
  pub first : List SocketAddr
  pub second : Option (List SocketAddr)

-- a network as the process hears of it
abbrev pub over_in : Places → Network → Over
over_in places First = if is_some places.second then over.First else over.Alone
over_in places Second = over.Second

-- the node that sent from an address in a network, if it is that of one
abbrev pub IsSender : Places → Network → SocketAddr → Option NodeId → Type 0
IsSender places First sender node = IsNodeOf places.first sender node
IsSender places Second sender node = IsSomeAnd places.second (λ addresses. IsNodeOf addresses sender node)

-- it came over this network, from the node that has the sender's address there, or from none
abbrev pub IsOrigin : Places → Network → Origin → Type 0
IsOrigin places network origin = (origin.over ≡ over_in places network) × (sender : SocketAddr) × IsSender places network sender origin.from

abbrev pub IsFrom : Places → Network → calls.DatagramHeard → Type 0
IsFrom places network (calls.Came arrival) = IsOrigin places network arrival.0
IsFrom places network heard = Unit {0}

-- ---- calls of the intake

-- Each datagram that these take came from the address of the node at that place, in that network. None reads the clock.
abbrev pub AreFrom : Places → List IntakeCall → Type 0
AreFrom places [] = Unit {0}
AreFrom places (ReadsClock reading ∷ calls) = ⊥
AreFrom places (TakesFrom network place bytes ∷ calls) = ((sender : SocketAddr) × IsSender places network sender (Some (record { 0 = place }))) × AreFrom places calls
AreFrom places (FindsEmpty network ∷ calls) = AreFrom places calls
AreFrom places (AsksAt now ∷ calls) = AreFrom places calls
AreFrom places (Forgets ∷ calls) = AreFrom places calls

-- The intake came to be so by such calls, which handed out these.
pub record Takes (places : Places) (old new : IntakeState) (handed : List Came) : Type 0 where
  pub calls : List IntakeCall
  pub are : AreFrom places calls
  pub run : intake_run calls old ≡ (handed, new)

-- Nothing is left to be handed out, and each network was found empty less than 90 ms before the latest reading.
pub record IsClear (intake : IntakeState) : Type 0 where
  pub none : first_ready intake.latest intake.holds ≡ None
  pub fresh : is_fresh LONGEST_UNSEEN intake ≡ true

-- ---- answers

-- one that was handed out, as the process hears it
abbrev pub heard_of : Places → Came → calls.DatagramHeard
heard_of places one = calls.Came (record { from = Some (record { 0 = one.sender }); over = over_in places one.over }, one.bytes)

-- What the question for a datagram is answered: one that the intake hands out, one that came from the address of no node, that the
-- intake is clear, or that it isn't known.
pub data Answers (places : Places) (old new : IntakeState) : calls.DatagramHeard → Type 0 where
  handed : {one : Came} → Takes places old new (one ∷ []) → Answers places old new (heard_of places one)
  strange : {origin : Origin} {bytes : List ℕ} (network : Network) → Takes places old new [] → origin.from ≡ None → IsOrigin places network origin
      → Answers places old new (calls.Came (origin, bytes))
  empty : Takes places old new [] → IsClear new → Answers places old new calls.Empty
  failed : Takes places old new [] → Answers places old new calls.Failed

-- It is answered so, or nothing was handed out yet.
abbrev pub AnswersIfAny : Places → IntakeState → IntakeState → Option NextDatagram → Type 0
AnswersIfAny places old new None = Takes places old new []
AnswersIfAny places old new (Some next) = Answers places old new (calls.datagram_heard next)
