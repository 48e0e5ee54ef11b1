-- What a telegram of the controller is to its connection, by the order of the initialisation: version answer, start, the
-- state of each object, completed, and then reports. The protocol is this project's own, in the manner of EULYNX.
use Rattle.std.specs.Prelude.{ℕ, ◌-◌, ◌==◌, nat_le, ◌&&◌, not, Bool, true, false, List, Option, Some, None, length, if◌then◌else◌}
use Rattle.std.specs.List.{position}
use Rattle.std.specs.Str.{bytes_eq}
use Rattle.sci_telegram.specs.Messages.{protocol_of}
use Rattle.sci_telegram.specs.declared.message.Agreement.{Agreement}
use Rattle.sci_telegram.specs.declared.message.Aspect.TheVariants.{Slow}
use Rattle.sci_telegram.specs.declared.message.Agreement.TheVariants.{NoMatch, Match}
use Rattle.sci_telegram.specs.declared.message.Initialisation.{Initialisation}
use Rattle.sci_telegram.specs.declared.message.Initialisation.TheVariants.{StartInitialisation, InitialisationCompleted, VersionAnswer}
use Rattle.sci_telegram.specs.declared.message.Message.{Message}
use Rattle.sci_telegram.specs.declared.message.Message.TheVariants as message
use Rattle.sci_telegram.specs.declared.message.PointMessage.TheVariants.{PointPosition, Timeout}
use Rattle.sci_telegram.specs.declared.message.TheConstants.{SLOW_SINCE}
use Rattle.sci_telegram.specs.declared.message.Protocol.{Protocol}
use Rattle.sci_telegram.specs.declared.message.Protocol.TheVariants as protocols
use Rattle.sci_telegram.specs.declared.message.SignalMessage.TheVariants.{IndicatedAspect}
use Rattle.sci_telegram.specs.declared.message.DetectionMessage.TheVariants.{OccupancyStatus}
use Rattle.sci_telegram.specs.declared.telegram.Telegram.{Telegram}
use Rattle.ixl_client.specs.Client.{PeerState}
use Rattle.ixl_client.specs.declared.meaning.Meaning.{Meaning}
use Rattle.ixl_client.specs.declared.meaning.Meaning.TheVariants as meanings
use Rattle.ixl_client.specs.declared.indication.ObjectState.{ObjectState}
use Rattle.ixl_client.specs.declared.indication.ObjectState.TheVariants as states
use Rattle.ixl_client.specs.declared.stage.Stage.{Stage}
use Rattle.ixl_client.specs.declared.stage.Stage.TheVariants as stage

-- the state of an object that a message tells, if it tells one
abbrev pub state_in : Message → Option ObjectState
state_in (message.Signal (IndicatedAspect aspect)) = Some (states.Aspect aspect)
state_in (message.Point (PointPosition position)) = Some (states.Position position)
state_in (message.Point Timeout) = Some states.Timeout
state_in (message.Detection (OccupancyStatus occupancy)) = Some (states.Occupancy occupancy)
state_in _ = None

-- a timeout says that a move failed, and is no state to begin with
abbrev pub is_status : ObjectState → Bool
is_status states.Timeout = false
is_status _ = true

-- version 1 of the telegrams doesn't have the aspect slow
abbrev pub is_in_version : ℕ → ObjectState → Bool
is_in_version version (states.Aspect Slow) = nat_le SLOW_SINCE version
is_in_version version _ = true

-- a point tells where it lies only in the initialisation and when a move has ended
abbrev pub reports_changes : Protocol → Bool
reports_changes protocols.Point = false
reports_changes _ = true

-- whether the state of the object at this place comes in its turn: in the initialisation the objects tell in their order
abbrev pub is_in_turn : PeerState → ℕ → ObjectState → Stage → Bool
is_in_turn peer place state (stage.AwaitsStatus left) = place == length peer.objects - left && is_status state
is_in_turn peer place state stage.Completed = reports_changes peer.protocol
is_in_turn peer place state stage.AwaitsReport = true
is_in_turn peer place state _ = false

-- the place of an object among those that the controller tells of
abbrev pub place_of : PeerState → List ℕ → Option ℕ
place_of peer sender = position (λ name. bytes_eq name sender) peer.objects

abbrev pub report_meaning : PeerState → Option ℕ → Option ObjectState → Stage → Meaning
report_meaning peer (Some place) (Some state) stage =
    if is_in_turn peer place state stage && is_in_version peer.version state
    then meanings.Indicates (record { place = place; state = state })
    else meanings.Violates
report_meaning peer _ _ stage = meanings.Violates

abbrev pub is_match : Agreement → Bool
is_match Match = true
is_match NoMatch = false

abbrev pub initial_meaning : PeerState → Initialisation → Stage → Meaning
initial_meaning peer (VersionAnswer agreement version) stage.AwaitsAnswer =
    if is_match agreement && version == peer.version then meanings.Agrees else meanings.Differs
initial_meaning peer StartInitialisation stage.AwaitsStart = meanings.Starts
initial_meaning peer InitialisationCompleted (stage.AwaitsStatus left) =
    if left == 0 then meanings.Completes else meanings.Violates
initial_meaning peer _ _ = meanings.Violates

-- the sender of a telegram of the initialisation is the controller, and that of a report the object
abbrev pub meaning_of : PeerState → List ℕ → Message → Stage → Meaning
meaning_of peer sender (message.Initialisation protocol initialisation) stage =
    if bytes_eq sender peer.name then initial_meaning peer initialisation stage else meanings.Violates
meaning_of peer sender told stage = report_meaning peer (place_of peer sender) (state_in told) stage

abbrev pub is_same_protocol : Protocol → Protocol → Bool
is_same_protocol protocols.TrainDetection protocols.TrainDetection = true
is_same_protocol protocols.LightSignal protocols.LightSignal = true
is_same_protocol protocols.Point protocols.Point = true
is_same_protocol _ _ = false

-- a telegram in the controller's protocol for this client
abbrev pub is_for_client : PeerState → Telegram → Bool
is_for_client peer telegram = is_same_protocol (protocol_of telegram.message) peer.protocol && bytes_eq telegram.receiver peer.own_name

unfoldable pub meaning : PeerState → Telegram → Stage → Meaning
meaning peer telegram stage =
    if is_for_client peer telegram then meaning_of peer telegram.sender telegram.message stage else meanings.Violates
