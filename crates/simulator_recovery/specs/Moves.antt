-- What comes of the moves of points in good rounds.
use Rattle.std.specs.Prelude.{◌≡◌, ℕ, ◌+◌, ◌≤◌, ◌<◌, true, List, [], ◌∷◌, ◌++◌, length, Option, Some, None, slice_get}
use Rattle.simulator_spec.specs.layout.Entries.{Site}
use Rattle.simulator_spec.specs.ixl_spec.Due.{At}
use Rattle.simulator_spec.specs.rasta_core.Ends.{reading_of}
use Rattle.simulator_spec.specs.rasta_core.Links.{seen}
use Rattle.simulator_spec.specs.rasta_core.Run.{Ends}
use Rattle.simulator_spec.specs.rasta_core.State.{is_open}
use Rattle.simulator_spec.specs.rasta_core.identity.Role.TheVariants.{Server}
use Rattle.simulator_spec.specs.sci_telegram.declared.message.Message.TheVariants as message
use Rattle.simulator_spec.specs.sci_telegram.declared.message.PointMessage.TheVariants.{PointPosition}
use Rattle.simulator_spec.specs.sci_telegram.declared.message.Side.{Side}
use Rattle.simulator_spec.specs.sci_telegram.declared.telegram.Telegram.{Telegram}
use Rattle.simulator_spec.specs.object_host.Host.{HostState, is_completed}
use Rattle.simulator_spec.specs.object_host.Made.{commands_of}
use Rattle.simulator_spec.specs.object_host.Told.{item_of}
use Rattle.simulator_spec.specs.point_ctl.Drive.{PointState, commanded_by, drive_end, own_report}
use Rattle.simulator_spec.specs.point_ctl.History.{unanswered}
use Rattle.simulator_spec.specs.point_ctl.declared.progress.Progress.TheVariants.{Answered, Driving}
use Rattle.simulator_spec.specs.simulator_event.declared.event.Event.{Event}
use Rattle.simulator_spec.specs.Flow.{Flowing, position_of, round}
use Rattle.simulator_spec.specs.Nodes.{point_link}
use Rattle.simulator_spec.specs.State.{ClockedControllerState, WorldState}
use Rattle.simulator_spec.specs.Tried.{Played, driven}
use Rattle.simulator_link_laws.specs.HasLinks.{HasLinks, links_in}
use Rattle.simulator_safety.specs.InFlight.{given_on}
use Rattle.simulator_recovery.specs.LinkRounds.{IsUpOn}
use Rattle.simulator_recovery.specs.Rounds.{all_tried, good_rounds}

-- ---- drives

-- The controller of a point drives it to a side.
abbrev pub IsDriven : ℕ → Side → Played → Type 0
IsDriven place side world = driven world (record { 0 = place }) ≡ Some side

-- So it does after each of these good rounds.
abbrev pub IsDrivenBehind : ℕ → Side → List (List Event) → Flowing → Type 0
IsDrivenBehind place side [] flowing = Unit {0}
IsDrivenBehind place side (between ∷ later) flowing =
    IsDriven place side (all_tried between (round flowing)).state × IsDrivenBehind place side later (all_tried between (round flowing))

-- after so many good rounds, one after another, a point is driven to one side at most: 500 ms
abbrev pub drive_rounds : ℕ
drive_rounds = 50

-- ---- what a point's controller owes

abbrev pub or_before : Option Side → Option Side → Option Side
or_before None before = before
or_before (Some side) before = Some side

-- the side that telegrams command last, where this one was commanded before
abbrev pub last_side : Option Side → List Telegram → Option Side
last_side before [] = before
last_side before (first ∷ others) = last_side (or_before (commanded_by first.message) before) others

-- A point's controller has given four items for the initialisation, and a report for each move that it has taken, but for one
-- that waits for it. A drive is that of the last move.
pub record OwesEach (host : HostState PointState) (ends : Ends) : Type 0 where
  pub each : 4 + length (commands_of ends.server.taken) ≤ length ends.server.given + unanswered host.object.progress
  pub last : (side : Side) (since : ℕ) → host.object.progress ≡ Driving side since → last_side None (commands_of ends.server.taken) ≡ Some side

-- the links of a station, and what its points owe there once their initialisation was completed
pub record HaveOwed (site : Site) (world : WorldState) : Type 0 where
  pub has : HasLinks site world
  pub points : (place : ℕ) (controller : ClockedControllerState PointState) → slice_get world.points place ≡ Some controller
      → is_open controller.host.link.phase ≡ true → is_completed controller.host.stage ≡ true → OwesEach controller.host (seen (point_link site place) (links_in has))

-- ---- what has come over

-- Of so many items that a point's client has given in the connection the controller has answered each: its initialisation has two items more
-- than ask for it, and each move has one report.
abbrev pub HasAnswered : ℕ → ClockedControllerState PointState → Type 0
HasAnswered given controller = 2 + given ≤ controller.host.link.given

-- It has answered each, but for one move at most that it has taken and that waits for its report.
abbrev pub HasTakenMoves : ℕ → ClockedControllerState PointState → Type 0
HasTakenMoves given controller = 2 + given ≤ controller.host.link.given + unanswered controller.host.object.progress

-- ---- what is answered

-- so many good rounds later each move that was given is answered: 520 ms
abbrev pub move_rounds : ℕ
move_rounds = 52

-- A link is up at two moments, and by the later one the interlocking has taken a report for each move that it had given by the earlier
-- one: with the initialisation, two items more than it had given.
pub record AreAnswered (link : ℕ) (old new : WorldState) : Type 0 where
  pub before : IsUpOn link old
  pub behind : IsUpOn link new
  pub answered : 2 + before.client.given ≤ behind.client.taken

-- ---- what is reported

-- A point's controller drives to this side for a move that it took at this reading of its clock, and so many milliseconds later the
-- drive won't have come to its limit.
abbrev pub IsDriving : ℕ → Side → ℕ → ℕ → WorldState → Type 0
IsDriving place side since ms world =
    At world.points place (λ (controller : ClockedControllerState PointState). (controller.host.object.progress ≡ Driving side since) × (reading_of controller.clock + ms < drive_end since))

-- the items that a point's controller has sent in a connection, as the datagrams tell them
abbrev pub reports_in : Site → ℕ → ℕ → WorldState → List (List ℕ)
reports_in site place connection world = given_on site world (point_link site place) Server connection

-- From one moment to a later one, in one connection, a point's controller has sent one item more: the report that the point lies at
-- this side. With that it has answered its move.
pub record HasReported (site : Site) (place : ℕ) (side : Side) (old new : WorldState) : Type 0 where
  pub connection : ℕ
  pub was_in : slice_get old.interlocking.connections (point_link site place) ≡ Some (Some connection)
  pub is_in : slice_get new.interlocking.connections (point_link site place) ≡ Some (Some connection)
  pub controller : ClockedControllerState PointState
  pub there : slice_get new.points place ≡ Some controller
  pub answered : controller.host.object.progress ≡ Answered
  pub reported : reports_in site place connection new ≡ reports_in site place connection old ++ item_of controller.host (own_report (message.Point (PointPosition (position_of side)))) ∷ []

-- It has by one of these good rounds.
pub record ReportsBehind (site : Site) (place : ℕ) (side : Side) (rounds : List (List Event)) (flowing : Flowing) : Type 0 where
  pub front : List (List Event)
  pub rest : List (List Event)
  pub parts : rounds ≡ front ++ rest
  pub reports : HasReported site place side flowing.state.run (good_rounds front flowing).state.run

-- so long do as many good rounds take, and one more: 510 ms
abbrev pub drive_time : ℕ
drive_time = 510

-- a point's controller drives to this side for a move that it took at this reading of its clock
abbrev pub DrivesSince : ℕ → Side → ℕ → WorldState → Type 0
DrivesSince place side since world = At world.points place (λ (controller : ClockedControllerState PointState). controller.host.object.progress ≡ Driving side since)

-- From one moment to a later one, in one connection, the interlocking's end of a point's link has taken all that the controller had sent
-- by the first, in that order. What it has taken is a beginning of what the controller has sent by the second. The items sent are those
-- that the datagrams tell.
pub record ReportsCome (site : Site) (place : ℕ) (old new : WorldState) : Type 0 where
  pub connection : ℕ
  pub was_in : slice_get old.interlocking.connections (point_link site place) ≡ Some (Some connection)
  pub is_in : slice_get new.interlocking.connections (point_link site place) ≡ Some (Some connection)
  pub has : HasLinks site new
  pub client : ((links_in has).ends (point_link site place)).client.connection ≡ Some connection
  pub more : List (List ℕ)
  pub taken : ((links_in has).ends (point_link site place)).client.taken ≡ reports_in site place connection old ++ more
  pub rest : List (List ℕ)
  pub sent : reports_in site place connection new ≡ ((links_in has).ends (point_link site place)).client.taken ++ rest

-- After one of these good rounds a point's controller has reported that the point lies at this side, and in the next of them the
-- interlocking's end takes that.
pub record ReportComesBehind (site : Site) (place : ℕ) (side : Side) (rounds : List (List Event)) (flowing : Flowing) : Type 0 where
  pub front : List (List Event)
  pub last : List Event
  pub rest : List (List Event)
  pub parts : rounds ≡ front ++ last ∷ rest
  pub reports : HasReported site place side flowing.state.run (good_rounds front flowing).state.run
  pub comes : ReportsCome site place (good_rounds front flowing).state.run (good_rounds (front ++ last ∷ []) flowing).state.run
