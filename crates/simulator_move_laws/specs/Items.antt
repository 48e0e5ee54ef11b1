-- What the machine of a station reads of the items that an end of a link gave or took.
use Rattle.std.specs.Prelude.{ℕ, List, [], ◌∷◌, ◌++◌, Some, None, Result, Ok, Err}
use Rattle.sci_telegram.specs.TelegramRead.{reading}
use Rattle.sci_telegram.specs.declared.fault.SciFault.{SciFault}
use Rattle.sci_telegram.specs.declared.message.Aspect as sent
use Rattle.sci_telegram.specs.declared.message.Aspect.TheVariants as aspect
use Rattle.sci_telegram.specs.declared.message.Message.{Message}
use Rattle.sci_telegram.specs.declared.message.Message.TheVariants as message
use Rattle.sci_telegram.specs.declared.message.PointMessage.TheVariants.{MovePoint, PointPosition, Timeout}
use Rattle.sci_telegram.specs.declared.message.Position as sensed
use Rattle.sci_telegram.specs.declared.message.Position.TheVariants as position
use Rattle.sci_telegram.specs.declared.message.Side as told
use Rattle.sci_telegram.specs.declared.message.Side.TheVariants as side
use Rattle.sci_telegram.specs.declared.message.SignalMessage.TheVariants.{IndicateAspect}
use Rattle.sci_telegram.specs.declared.telegram.Telegram.{Telegram}
use Rattle.simulator_machine.specs.Point.{Side, Left, Right, Position}
use Rattle.simulator_machine.specs.Signal.{Aspect, Stop, Proceed}

-- the machine tells aspects other than stop by numbers
abbrev pub aspect_seen : sent.Aspect → Aspect
aspect_seen aspect.Stop = Stop
aspect_seen aspect.Proceed = Proceed 0
aspect_seen aspect.Slow = Proceed 1

abbrev pub side_seen : told.Side → Side
side_seen side.Right = Right
side_seen side.Left = Left

abbrev pub position_seen : sensed.Position → Position
position_seen position.Right = Some Right
position_seen position.Left = Some Left
position_seen position.NoEndPosition = None

-- what a message says of it: the aspect to indicate, the side to move to, the position reported, of which a timeout has none
abbrev pub aspects_of : Message → List Aspect
aspects_of (message.Signal (IndicateAspect one)) = aspect_seen one ∷ []
aspects_of _ = []

abbrev pub moves_of : Message → List Side
moves_of (message.Point (MovePoint one)) = side_seen one ∷ []
moves_of _ = []

abbrev pub reports_of : Message → List Position
reports_of (message.Point (PointPosition one)) = position_seen one ∷ []
reports_of (message.Point Timeout) = None ∷ []
reports_of _ = []

-- what an item says, where it is a telegram
abbrev pub said_by : {A : Type 0} → (Message → List A) → Result Telegram SciFault → List A
said_by of (Ok telegram) = of telegram.message
said_by of (Err fault) = []

-- what items say, one after another
unfoldable pub all_said : {A : Type 0} → (Message → List A) → List (List ℕ) → List A
all_said of [] = []
all_said of (item ∷ others) = said_by of (reading item) ++ all_said of others

abbrev pub aspects_in : List (List ℕ) → List Aspect
aspects_in = all_said aspects_of

abbrev pub moves_in : List (List ℕ) → List Side
moves_in = all_said moves_of

abbrev pub reports_in : List (List ℕ) → List Position
reports_in = all_said reports_of
