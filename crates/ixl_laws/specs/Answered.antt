-- What a point is given and tells in its present connection: each move is answered by one report, and the last report tells
-- where the point is known.
use Rattle.std.specs.Prelude.{◌≡◌, ◌+◌, ℕ, false, List, [], ◌∷◌, ◌++◌, length, map, Option, None, if◌then◌else◌}
use Rattle.ixl_state.specs.sci_telegram.Telegrams.{writing}
use Rattle.ixl_state.specs.sci_telegram.declared.message.Protocol.TheVariants as protocols
use Rattle.ixl_state.specs.sci_telegram.declared.message.Side.{Side}
use Rattle.ixl_state.specs.ixl_client.Client.{ClientState, PeerState, is_outside}
use Rattle.ixl_state.specs.ixl_client.Made.{told_by_all}
use Rattle.ixl_state.specs.ixl_client.Step.{clocked, message_of, telegram_to}
use Rattle.ixl_state.specs.ixl_client.declared.command.Command.TheVariants as commands
use Rattle.ixl_state.specs.ixl_client.declared.indication.Indication.{Indication}
use Rattle.ixl_state.specs.ixl_client.declared.indication.ObjectState.{ObjectState}
use Rattle.ixl_state.specs.ixl_client.declared.stage.Stage.{Stage}
use Rattle.ixl_state.specs.ixl_client.declared.stage.Stage.TheVariants as stage
use Rattle.ixl_state.specs.ixl_client.ItemsSaid.{items_said, items_sent}
use Rattle.ixl_state.specs.ixl_spec.StepSoFar.{Point}
use Rattle.ixl_state.specs.ixl_spec.State.{KnownPointState}
use Rattle.ixl_state.specs.ixl_spec.Step.{Input, side_of}
use Rattle.ixl.specs.Interlocking.{InterlockingState, step_of}
use Rattle.ixl_laws.specs.Nodes.{of_node}

-- a controller that tells of one point
pub record IsOfPoint (peer : PeerState) : Type 0 where
  pub protocol : peer.protocol ≡ protocols.Point
  pub one : length peer.objects ≡ 1

-- the side that the last of these reports tells, if it tells one
abbrev pub last_told : Option Side → List ObjectState → Option Side
last_told side [] = side
last_told side (first ∷ others) = last_told (side_of first) others

-- How many reports were heard of a point that was given these moves: the first is the initial status, and each other one
-- answers a move. While a move is unanswered the last one is.
abbrev pub IsCounted : Stage → List Side → List ObjectState → Type 0
IsCounted stage.Outside moves told = Unit {0}
IsCounted stage.AwaitsAnswer moves told = (moves ≡ []) × (told ≡ [])
IsCounted stage.AwaitsStart moves told = (moves ≡ []) × (told ≡ [])
IsCounted (stage.AwaitsStatus left) moves told = (moves ≡ []) × (length told + left ≡ 1)
IsCounted stage.Completed moves told = length told ≡ length moves + 1
IsCounted stage.AwaitsReport moves told = length told ≡ length moves

-- In its present connection a point was given these moves, and told these states.
pub record IsAnswered (moves : List Side) (told : List ObjectState) (known_point : KnownPointState) : Type 0 where
  pub point : IsOfPoint known_point.client.peer
  pub counted : IsCounted known_point.client.stage moves told
  pub last : is_outside known_point.client.stage ≡ false → known_point.side ≡ last_told None told

-- ---- what a step adds

-- moves, as the items that are sent
abbrev pub move_items : PeerState → List Side → List (List ℕ)
move_items peer moves = map (λ side. writing (telegram_to peer (message_of (commands.Move side)))) moves

-- the states that items tell
abbrev pub states_of : List Indication → List ObjectState
states_of heard = map (λ (told : Indication). told.state) heard

abbrev pub told_in : PeerState → List (List ℕ) → List ObjectState
told_in peer items = states_of (told_by_all peer items)

-- what was given or told before stays while the connection does
abbrev pub kept_by : {A : Type 0} → ClientState → List A → List A
kept_by client list = if is_outside client.stage then [] else list

-- After a step a point was given these moves more, if it is in a connection: they are what was sent to it beside the
-- telegrams of the initialisation. And it told what the items tell that were acted on in the step.
pub record GoesOnAnswered (now : ℕ) (input : Input) (old : InterlockingState) (place : ℕ) (before after : KnownPointState) (moves : List Side) (told : List ObjectState) : Type 0 where
  pub more : List Side
  pub sent : is_outside after.client.stage ≡ false → items_said (clocked now before.client) ++ items_sent (of_node (Point place) (step_of now input old.state).calls) ≡ items_said after.client ++ move_items before.client.peer more
  pub answered : IsAnswered (kept_by (clocked now before.client) moves ++ more) (kept_by (clocked now before.client) told ++ told_in before.client.peer (of_node (Point place) (step_of now input old.state).acted)) after
