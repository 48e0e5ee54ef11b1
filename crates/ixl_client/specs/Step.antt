-- What a client does in a step: with the clock, with a datagram, with a command, on a tick.
use Rattle.std.specs.Prelude.{ℕ, ◌-◌, length, ◌&&◌, not, Bool, true, false, List, [], ◌∷◌, ◌++◌, Result, Ok, Err, if◌then◌else◌}
use Rattle.sci_telegram.specs.TelegramRead.{reading}
use Rattle.sci_telegram.specs.Telegrams.{writing}
use Rattle.sci_telegram.specs.declared.fault.SciFault.{SciFault}
use Rattle.sci_telegram.specs.declared.message.Initialisation.{Initialisation}
use Rattle.sci_telegram.specs.declared.message.Initialisation.TheVariants.{InitialisationRequest, VersionCheck}
use Rattle.sci_telegram.specs.declared.message.Message.{Message}
use Rattle.sci_telegram.specs.declared.message.Message.TheVariants as message
use Rattle.sci_telegram.specs.declared.message.PointMessage.TheVariants.{MovePoint}
use Rattle.sci_telegram.specs.declared.message.SignalMessage.TheVariants.{IndicateAspect}
use Rattle.sci_telegram.specs.declared.telegram.Telegram.{Telegram}
use Rattle.rasta_core.specs.State.{is_open, is_up}
use Rattle.rasta_core.specs.Clock.{settled}
use Rattle.rasta_core.specs.Calls.{answer_to_send, receiving}
use Rattle.rasta_core.specs.fault.SendFault.{SendFault}
use Rattle.rasta_core.specs.fault.SendFault.TheVariants.{NotUp, WindowFull}
use Rattle.rasta_core.specs.reason.Reason.TheVariants as reason
use Rattle.ixl_client.specs.Client.{PeerState, ClientState, is_outside}
use Rattle.ixl_client.specs.Meaning.{meaning}
use Rattle.ixl_client.specs.ClientSoFar.{ClientSoFar, Opens, Ticks, Closes, Sends, Receives, calling}
use Rattle.ixl_client.specs.declared.command.Command.{Command}
use Rattle.ixl_client.specs.declared.command.Command.TheVariants as commands
use Rattle.ixl_client.specs.declared.meaning.Meaning.{Meaning}
use Rattle.ixl_client.specs.declared.meaning.Meaning.TheVariants as meanings
use Rattle.ixl_client.specs.declared.stage.Stage.{Stage}
use Rattle.ixl_client.specs.declared.stage.Stage.TheVariants as stage

-- ---- the stage

abbrev pub at_stage : Stage → ClientSoFar → ClientSoFar
at_stage stage part = record part { client = record part.client { stage = stage } }

-- a client whose link isn't up is outside
unfoldable pub fallen : ClientState → ClientState
fallen client = if is_up client.link.phase then client else record client { stage = stage.Outside }

abbrev pub ending : ClientSoFar → ClientSoFar
ending part = record part { client = fallen part.client }

-- ---- what is sent

abbrev pub telegram_to : PeerState → Message → Telegram
telegram_to peer told = record { sender = peer.own_name; receiver = peer.name; message = told }

abbrev pub is_refused_by_window : Result Unit SendFault → Bool
is_refused_by_window (Err WindowFull) = true
is_refused_by_window _ = false

-- a telegram goes to the controller; where the window refuses it, the link closes
unfoldable pub posting : ℕ → Message → ClientSoFar → ClientSoFar
posting now told part =
    let sent = calling now (Sends (writing (telegram_to part.client.peer told))) part
    in if is_refused_by_window (answer_to_send now part.client.link) then calling now (Closes reason.Window) sent else sent

-- a telegram of the initialisation
abbrev pub saying : ℕ → Initialisation → ClientSoFar → ClientSoFar
saying now initialisation part = posting now (message.Initialisation part.client.peer.protocol initialisation) part

-- a connection that came up begins with the version check
unfoldable pub rising : ℕ → ClientSoFar → ClientSoFar
rising now part =
    if is_outside part.client.stage && is_up part.client.link.phase
    then at_stage stage.AwaitsAnswer (saying now (VersionCheck part.client.peer.version) part)
    else part

-- ---- what is heard

-- how far the connection has come once an object's state was told
abbrev pub stage_after_report : Stage → Stage
stage_after_report (stage.AwaitsStatus left) = stage.AwaitsStatus (left - 1)
stage_after_report _ = stage.Completed

abbrev pub acted_on : List ℕ → ClientSoFar → ClientSoFar
acted_on item part = record part { acted = part.acted ++ item ∷ [] }

-- an item is acted on, or it closes the link
unfoldable pub following : ℕ → List ℕ → Meaning → ClientSoFar → ClientSoFar
following now item meanings.Agrees part = at_stage stage.AwaitsStart (saying now InitialisationRequest (acted_on item part))
following now item meanings.Starts part = at_stage (stage.AwaitsStatus (length part.client.peer.objects)) (acted_on item part)
following now item (meanings.Indicates indication) part =
    at_stage (stage_after_report part.client.stage) (record (acted_on item part) { heard = part.heard ++ indication ∷ [] })
following now item meanings.Completes part = at_stage stage.Completed (acted_on item part)
following now item meanings.Differs part = calling now (Closes reason.Version) part
following now item meanings.Violates part = calling now (Closes reason.State) part

-- what an item is to the connection: what is no telegram violates it
abbrev pub meaning_of_item : PeerState → Stage → Result Telegram SciFault → Meaning
meaning_of_item peer stage (Ok telegram) = meaning peer telegram stage
meaning_of_item peer stage (Err fault) = meanings.Violates

unfoldable pub acting : ℕ → List ℕ → ClientSoFar → ClientSoFar
acting now item part = following now item (meaning_of_item part.client.peer part.client.stage (reading item)) part

-- the items of a datagram, one after another; those after one that closed the link are dropped
unfoldable pub acting_all : ℕ → List (List ℕ) → ClientSoFar → ClientSoFar
acting_all now [] part = part
acting_all now (item ∷ others) part =
    if is_open part.client.link.phase then acting_all now others (acting now item part) else part

-- ---- the step

-- the clock
unfoldable pub clocked : ℕ → ClientState → ClientState
clocked now client = fallen (record client { link = settled now client.link })

-- a datagram
unfoldable pub hearing : ℕ → List ℕ → ClientSoFar → ClientSoFar
hearing now bytes part =
    let items = (receiving now bytes part.client.link).items
    in ending (acting_all now items (rising now (calling now (Receives bytes) part)))

-- a command
abbrev pub message_of : Command → Message
message_of (commands.Indicate aspect) = message.Signal (IndicateAspect aspect)
message_of (commands.Move side) = message.Point (MovePoint side)

-- a move is unanswered until the point reports
abbrev pub stage_after_command : Command → Stage → Stage
stage_after_command (commands.Move side) stage.Completed = stage.AwaitsReport
stage_after_command _ stage = stage

unfoldable pub commanding : ℕ → Command → ClientSoFar → ClientSoFar
commanding now command part =
    ending (at_stage (stage_after_command command part.client.stage) (posting now (message_of command) part))

-- a tick: the heartbeat that is due, and a link that is down is opened
unfoldable pub ticking : ℕ → ClientSoFar → ClientSoFar
ticking now part = ending (calling now Opens (calling now Ticks part))
