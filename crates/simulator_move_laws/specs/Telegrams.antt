-- What the items between the interlocking and a controller tell the machine.
use Rattle.std.specs.Prelude.{◌≡◌, ◌+◌, ℕ, List, [], ◌∷◌, map, Option, Some, None}
use Rattle.ixl_spec.specs.sci_telegram.Telegrams.{writing}
use Rattle.ixl_spec.specs.sci_telegram.declared.message.Aspect.{Aspect as TelegramAspect}
use Rattle.ixl_spec.specs.sci_telegram.declared.message.Aspect.TheVariants as aspects
use Rattle.ixl_spec.specs.sci_telegram.declared.message.Initialisation.{Initialisation}
use Rattle.ixl_spec.specs.sci_telegram.declared.message.Initialisation.TheVariants.{InitialisationRequest, VersionCheck}
use Rattle.ixl_spec.specs.sci_telegram.declared.message.Message.{Message}
use Rattle.ixl_spec.specs.sci_telegram.declared.message.Message.TheVariants as message
use Rattle.ixl_spec.specs.sci_telegram.declared.message.Side.{Side as TelegramSide}
use Rattle.ixl_spec.specs.sci_telegram.declared.message.Side.TheVariants as sides
use Rattle.ixl_spec.specs.ixl_client.Client.{PeerState}
use Rattle.ixl_spec.specs.ixl_client.Made.{told_by_all}
use Rattle.ixl_spec.specs.ixl_client.Step.{message_of, telegram_to}
use Rattle.ixl_spec.specs.ixl_client.declared.command.Command.{Command}
use Rattle.ixl_spec.specs.ixl_client.declared.command.Command.TheVariants as commands
use Rattle.ixl_spec.specs.ixl_client.declared.indication.Indication.{Indication}
use Rattle.ixl_spec.specs.ixl_client.declared.stage.Stage.{Stage}
use Rattle.ixl_spec.specs.ixl_client.declared.stage.Stage.TheVariants as stage
use Rattle.ixl_spec.specs.Step.{side_of}
use Rattle.simulator_machine.specs.Signal.{Aspect, Stop, Proceed}
use Rattle.simulator_machine.specs.Point.{Side, Left, Right, Position}

-- ---- aspects and sides

abbrev pub aspect_seen : TelegramAspect → Aspect
aspect_seen aspects.Stop = Stop
aspect_seen aspects.Proceed = Proceed 0
aspect_seen aspects.Slow = Proceed 1

abbrev pub side_seen : TelegramSide → Side
side_seen sides.Right = Right
side_seen sides.Left = Left

-- the position that a report tells: an end position, or none
abbrev pub position_seen : Option TelegramSide → Position
position_seen None = None
position_seen (Some side) = Some (side_seen side)

-- ---- what a client gives

-- an item of a client: a telegram to its controller
abbrev pub item_of : PeerState → Message → List ℕ
item_of peer told = writing (telegram_to peer told)

abbrev pub opening_item : PeerState → Initialisation → List ℕ
opening_item peer told = item_of peer (message.Initialisation peer.protocol told)

abbrev pub commanded : PeerState → List Command → List (List ℕ)
commanded peer given = map (λ command. item_of peer (message_of command)) given

-- what a client has given in a connection: the version check, the request for the initialisation, and then commands
abbrev pub given_by : PeerState → Stage → List Command → List (List ℕ)
given_by peer stage.Outside given = []
given_by peer stage.AwaitsAnswer given = opening_item peer (VersionCheck peer.version) ∷ []
given_by peer stage.AwaitsStart given = opening_item peer (VersionCheck peer.version) ∷ opening_item peer InitialisationRequest ∷ []
given_by peer (stage.AwaitsStatus left) given = opening_item peer (VersionCheck peer.version) ∷ opening_item peer InitialisationRequest ∷ []
given_by peer stage.Completed given = opening_item peer (VersionCheck peer.version) ∷ opening_item peer InitialisationRequest ∷ commanded peer given
given_by peer stage.AwaitsReport given = opening_item peer (VersionCheck peer.version) ∷ opening_item peer InitialisationRequest ∷ commanded peer given

-- the aspect that a command tells; a signal is given no other commands
abbrev pub aspect_of : Command → Aspect
aspect_of (commands.Indicate aspect) = aspect_seen aspect
aspect_of (commands.Move side) = Stop

abbrev pub aspects_of : List Command → List Aspect
aspects_of given = map aspect_of given

-- ---- what a client takes of a point

abbrev pub position_told : Indication → Position
position_told told = position_seen (side_of told.state)

-- the positions that a point's items tell, each once and in order
abbrev pub positions_told : PeerState → List (List ℕ) → List Position
positions_told peer items = map position_told (told_by_all peer items)

-- How many reports were heard, of a point that was given so many moves: the first is the initial status.
abbrev pub AreHeard : Stage → (heard moves : ℕ) → Type 0
AreHeard stage.Outside heard moves = heard ≡ 0
AreHeard stage.AwaitsAnswer heard moves = heard ≡ 0
AreHeard stage.AwaitsStart heard moves = heard ≡ 0
AreHeard (stage.AwaitsStatus left) heard moves = heard + left ≡ 1
AreHeard stage.Completed heard moves = heard ≡ moves + 1
AreHeard stage.AwaitsReport heard moves = heard ≡ moves
