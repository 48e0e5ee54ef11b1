-- What the machine sees of a signal, of a point and of a route.
use Rattle.std.specs.Prelude.{◌≡◌, ◌+◌, ◌-◌, ◌==◌, ℕ, true, List, [], length, Option, Some, None}
use Rattle.ixl_spec.specs.sci_telegram.declared.message.Aspect.{Aspect as TelegramAspect}
use Rattle.ixl_spec.specs.sci_telegram.declared.message.Protocol.TheVariants as protocols
use Rattle.ixl_spec.specs.rasta_core.State.{confirmed_items}
use Rattle.ixl_spec.specs.ixl_client.Client.{PeerState}
use Rattle.ixl_spec.specs.ixl_client.declared.command.Command.{Command}
use Rattle.ixl_spec.specs.State.{KnownSignalState, RouteState, KnownPointState}
use Rattle.ixl_spec.specs.declared.phase.Phase.{Phase as RoutePhase}
use Rattle.ixl_spec.specs.declared.phase.Phase.TheVariants as phase
use Rattle.simulator_machine.specs.Lists.{last_of}
use Rattle.simulator_machine.specs.Link.{Up}
use Rattle.simulator_machine.specs.Signal.{Signal, Stop, aspects_given}
use Rattle.simulator_machine.specs.Point.{Point, moves_given}
use Rattle.simulator_machine.specs.Route.{Phase, Free, Waiting, Authorised, Ended}
use Rattle.simulator_move_laws.specs.Calls.{Items}
use Rattle.simulator_move_laws.specs.Link.{ClientFits, client_at, is_inside}
use Rattle.simulator_move_laws.specs.Telegrams.{AreHeard, aspect_seen, aspects_of, position_seen, positions_told}

-- how many items of a client come before its commands
abbrev pub openings : ℕ
openings = 2

-- What an interlocking notes as the last aspect given is the last of the commands, and the number of its item.
abbrev pub IsLastGiven : Option TelegramAspect → (number : ℕ) → List Command → Type 0
IsLastGiven None number commands = commands ≡ []
IsLastGiven (Some aspect) number commands =
    (last_of Stop (aspects_of commands) ≡ aspect_seen aspect) × (number ≡ length commands + openings)

pub record KnownSignalFits (now : ℕ) (known_signal : KnownSignalState) (items : Items) (signal : Signal) : Type 0 where
  -- what was commanded in the present connection
  pub commands : List Command
  pub client : ClientFits now known_signal.client items commands
  pub place : signal.link.client ≡ client_at now known_signal.client.link
  -- the machine's aspects are those commanded, and the lamp notes the last of them
  pub aspects : is_inside now known_signal.client.link ≡ true → aspects_given signal ≡ aspects_of commands
  pub last : is_inside now known_signal.client.link ≡ true → IsLastGiven known_signal.aspect known_signal.number commands
  pub confirmed : signal.link.client ≡ Up → signal.confirmed ≡ confirmed_items known_signal.client.link - openings

-- a controller that tells of one point
pub record IsOfPoint (peer : PeerState) : Type 0 where
  pub protocol : peer.protocol ≡ protocols.Point
  pub one : length peer.objects ≡ 1

pub record KnownPointFits (now : ℕ) (known_point : KnownPointState) (items : Items) (point : Point) : Type 0 where
  pub commands : List Command
  pub client : ClientFits now known_point.client items commands
  pub peer : IsOfPoint known_point.client.peer
  pub place : point.link.client ≡ client_at now known_point.client.link
  -- the machine's moves are those commanded, and its reports heard those that the items taken tell
  pub moves : is_inside now known_point.client.link ≡ true → moves_given point ≡ length commands
  pub told : is_inside now known_point.client.link ≡ true → point.heard ≡ positions_told known_point.client.peer items.taken
  -- by the stage each move is answered, or all but one; the last report heard answers the last move
  pub heard : is_inside now known_point.client.link ≡ true → AreHeard known_point.client.stage (length point.heard) (length commands)
  pub last : is_inside now known_point.client.link ≡ true → last_of None point.heard ≡ position_seen known_point.side

-- a route that isn't in the table isn't set
abbrev pub phase_seen : RoutePhase → Phase
phase_seen phase.Free = Free
phase_seen phase.Waiting = Waiting
phase_seen phase.Proceeding = Authorised
phase_seen phase.Withdrawn = Authorised
phase_seen (phase.Ended clock freed) = Ended (freed == 0)

abbrev pub route_seen : Option RouteState → Phase
route_seen None = Free
route_seen (Some route) = phase_seen route.phase
