-- What is in flight from the interlocking to the controllers of signals and points, read off the datagrams of a world.
use Rattle.std.specs.Prelude.{◌≡◌, ◌⊎◌, ◌≤◌, ℕ, false, true, List, Some, Ok, slice_get}
use Rattle.std.specs.List.{Contains}
use Rattle.simulator_link_laws.specs.sci_telegram.TelegramRead.{reading}
use Rattle.simulator_link_laws.specs.sci_telegram.declared.message.Aspect.{Aspect}
use Rattle.simulator_link_laws.specs.sci_telegram.declared.message.Message.TheVariants as message
use Rattle.simulator_link_laws.specs.sci_telegram.declared.message.PointMessage.TheVariants.{MovePoint}
use Rattle.simulator_link_laws.specs.sci_telegram.declared.message.Side.{Side}
use Rattle.simulator_link_laws.specs.sci_telegram.declared.message.SignalMessage.TheVariants.{IndicateAspect}
use Rattle.simulator_link_laws.specs.sci_telegram.declared.telegram.Telegram.{Telegram}
use Rattle.simulator_link_laws.specs.layout.declared.ids.PointId.{PointId}
use Rattle.simulator_link_laws.specs.layout.declared.ids.SignalId.{SignalId}
use Rattle.simulator_link_laws.specs.layout.Entries.{Site}
use Rattle.simulator_link_laws.specs.rasta_core.Calls.{receiving}
use Rattle.simulator_link_laws.specs.rasta_core.Clock.{settled}
use Rattle.simulator_link_laws.specs.rasta_core.Ends.{reading_of}
use Rattle.simulator_link_laws.specs.rasta_core.Given.{items_given}
use Rattle.simulator_link_laws.specs.rasta_core.Links.{of_link}
use Rattle.simulator_link_laws.specs.rasta_core.identity.Role.{Role}
use Rattle.simulator_link_laws.specs.rasta_core.identity.Role.TheVariants as role
use Rattle.simulator_link_laws.specs.point_ctl.Drive.{PointState, move_in}
use Rattle.simulator_link_laws.specs.signal_ctl.Signal.{SignalState}
use Rattle.simulator_link_laws.specs.simulator_spec.Links.{names_at}
use Rattle.simulator_link_laws.specs.simulator_spec.Nodes.{point_link}
use Rattle.simulator_link_laws.specs.simulator_spec.Seen.{shown_by}
use Rattle.simulator_link_laws.specs.simulator_spec.Controllers.{is_inside_at}
use Rattle.simulator_link_laws.specs.simulator_spec.State.{ClockedControllerState, WorldState}

-- ---- items

-- What an end of a link gave in a connection: the items of the data PDUs that it sent there, oldest first. The datagrams of
-- the world tell them, the lost ones too.
abbrev pub given_on : Site → WorldState → (link : ℕ) → Role → (connection : ℕ) → List (List ℕ)
given_on site world link who connection = items_given (names_at site link) who connection (of_link link world.sent)

-- This connection is the last that a controller entered.
abbrev pub HasEntered : {Object : Type 0} → ClockedControllerState Object → ℕ → Type 0
HasEntered controller connection = controller.connection ≡ Some connection

-- It has left it: by its clock it is in none.
abbrev pub HasLeft : {Object : Type 0} → ClockedControllerState Object → ℕ → Type 0
HasLeft controller connection = HasEntered controller connection × (is_inside_at controller.clock controller.host.link ≡ false)

-- An item is in flight to the controller of a link, and could still be taken. The interlocking gave it in the last connection
-- that it began there; the controller hasn't left this connection; and the item comes after those that it has taken in it.
pub record IsInFlight {Object : Type 0} (site : Site) (world : WorldState) (link : ℕ) (controller : ClockedControllerState Object) (item : List ℕ) : Type 0 where
  pub connection : ℕ
  pub last : slice_get world.interlocking.connections link ≡ Some (Some connection)
  -- its number among the items given, counted from 0
  pub number : ℕ
  pub given : slice_get (given_on site world link role.Client connection) number ≡ Some item
  pub stays : HasLeft controller connection → ⊥
  pub behind : HasEntered controller connection → controller.host.link.taken ≤ number

-- what a controller's link hands out of bytes that come at its clock
abbrev pub items_taken : {Object : Type 0} → List ℕ → ClockedControllerState Object → List (List ℕ)
items_taken bytes controller = (receiving (reading_of controller.clock) bytes (settled (reading_of controller.clock) controller.host.link)).items

-- What signals and points take of bytes was in flight to them, and could still be taken.
pub record TakesFromFlight (site : Site) (world : WorldState) (bytes : List ℕ) : Type 0 where
  pub signals : (place : ℕ) (controller : ClockedControllerState SignalState) → slice_get world.signals place ≡ Some controller → (item : List ℕ) → Contains (items_taken bytes controller) item
      → IsInFlight site world place controller item
  pub points : (place : ℕ) (controller : ClockedControllerState PointState) → slice_get world.points place ≡ Some controller → (item : List ℕ) → Contains (items_taken bytes controller) item
      → IsInFlight site world (point_link site place) controller item

-- ---- aspects

-- an item commands an aspect
pub record Indicates (aspect : Aspect) (item : List ℕ) : Type 0 where
  pub telegram : Telegram
  pub read : reading item ≡ Ok telegram
  pub says : telegram.message ≡ message.Signal (IndicateAspect aspect)

-- A signal shows an aspect, or the aspect is in flight to it and could still be taken.
pub record ShowsOrMayShow (site : Site) (world : WorldState) (signal : SignalId) (aspect : Aspect) : Type 0 where
  pub controller : ClockedControllerState SignalState
  pub there : slice_get world.signals signal.0 ≡ Some controller
  pub how : (shown_by controller ≡ aspect) ⊎ ((item : List ℕ) × Indicates aspect item × IsInFlight site world signal.0 controller item)

-- ---- moves

-- an item commands a move to a side
pub record Moves (side : Side) (item : List ℕ) : Type 0 where
  pub telegram : Telegram
  pub read : reading item ≡ Ok telegram
  pub says : telegram.message ≡ message.Point (MovePoint side)

-- A move to a side is in progress: the controller of a point is in a connection, and drives the point for it.
pub record IsMovingTo (side : Side) (controller : ClockedControllerState PointState) : Type 0 where
  pub inside : is_inside_at controller.clock controller.host.link ≡ true
  pub drive : move_in controller.host.object.progress ≡ Some side

-- A move of a point is in progress, or is in flight to it and could still be taken.
pub record MovesOrMayMove (site : Site) (world : WorldState) (point : PointId) : Type 0 where
  pub controller : ClockedControllerState PointState
  pub there : slice_get world.points point.0 ≡ Some controller
  pub side : Side
  pub how : IsMovingTo side controller ⊎ ((item : List ℕ) × Moves side item × IsInFlight site world (point_link site point.0) controller item)
