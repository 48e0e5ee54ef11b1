-- What a point does in a step of its host, and what it reports in a connection.
use Rattle.std.specs.Prelude.{◌≡◌, ◌⊎◌, ℕ, ◌+◌, ◌≤◌, Bool, true, false, List, [], ◌∷◌, ◌++◌, length, map, is_some}
use Rattle.std.specs.List.{All}
use Rattle.sci_telegram.specs.declared.message.Initialisation.TheVariants.{StartInitialisation, InitialisationCompleted}
use Rattle.sci_telegram.specs.declared.message.Message.TheVariants.{Point}
use Rattle.sci_telegram.specs.declared.message.PointMessage.TheVariants.{PointPosition, Timeout}
use Rattle.sci_telegram.specs.declared.message.Position.{Position}
use Rattle.sci_telegram.specs.declared.message.Side.{Side}
use Rattle.sci_telegram.specs.declared.telegram.Telegram.{Telegram}
use Rattle.rasta_core.specs.State.{is_open}
use Rattle.rasta_core.specs.Clock.{alive_until, settled}
use Rattle.rasta_core.specs.Ends.{reading_of}
use Rattle.object_host.specs.Host.{HostState, HostSoFar, is_completed, is_outside, said}
use Rattle.object_host.specs.Hosted.{IsSteady}
use Rattle.object_host.specs.Object.{object_after_all}
use Rattle.object_host.specs.Step.{beginning, given}
use Rattle.object_host.specs.Told.{AreSomeOf, IsToldIn, IsVersionAnswer, has_lost, item_of}
use Rattle.object_host.specs.declared.input.Input.{Input}
use Rattle.object_host.specs.declared.input.Input.TheVariants as inputs
use Rattle.object_host.specs.declared.report.Report.{Report}
use Rattle.object_host.specs.declared.sense.Sense.TheVariants as sense
use Rattle.object_host.specs.declared.stage.Stage.{Stage}
use Rattle.object_host_laws.specs.World.{World, host_of}
use Rattle.point_ctl.specs.declared.progress.Progress.TheVariants.{Answered}
use Rattle.point_ctl.specs.Controlled.{point_behaviour}
use Rattle.point_ctl.specs.Drive.{PointState, commanded_by, losing, move_in, own_report, ticking}
use Rattle.point_ctl.specs.History.{one_more, unanswered}

-- the moves that telegrams command, in order
unfoldable pub moves_in : List Telegram → List Side
moves_in [] = []
moves_in (telegram ∷ others) = one_more (commanded_by telegram.message) (moves_in others)

-- where a point stands by what its contacts tell, where it stood here before
abbrev pub position_told : Input → Position → Position
position_told (inputs.Sense (sense.Position position)) stood = position
position_told _ stood = stood

-- a final report of a point that stands here: a timeout, or this position
abbrev pub IsFinal : Position → Report → Type 0
IsFinal stands report = (report ≡ own_report (Point (PointPosition stands))) ⊎ (report ≡ own_report (Point Timeout))

-- all that the initialisation says of a point that stands here
abbrev pub initial_reports : Position → List Report
initial_reports stands =
    said point_behaviour StartInitialisation ∷ own_report (Point (PointPosition stands)) ∷ said point_behaviour InitialisationCompleted ∷ []

-- a point is driven for the move in progress
abbrev pub is_moving : PointState → Bool
is_moving point = is_some (move_in point.progress)

-- the point as a step finds it, and the stage that what comes leads to
abbrev pub found_by : ℕ → HostState PointState → PointState
found_by now host = (beginning point_behaviour now host).object

abbrev pub stage_by : ℕ → Input → HostState PointState → Stage
stage_by now input host = (given point_behaviour now input (beginning point_behaviour now host)).host.stage

-- as what comes leaves it
abbrev pub moved_by : {now : ℕ} {input : Input} {host : HostState PointState} {part : HostSoFar PointState} → IsToldIn point_behaviour now input host part → PointState
moved_by {now} {input} {host} {part} tells = object_after_all point_behaviour tells.comes (found_by now host)

-- What a step does to a point and what the point reports in it.
pub record IsPointStep (now : ℕ) (input : Input) (host : HostState PointState) (part : HostSoFar PointState) : Type 0 where
  pub tells : IsToldIn point_behaviour now input host part
  -- it is found as it was, with a drive at its limit ended; where the clock rules have closed its link, as after a loss
  pub stays : has_lost (record host { link = settled now host.link }) ≡ false → found_by now host ≡ ticking now host.object
  pub lost : has_lost (record host { link = settled now host.link }) ≡ true → found_by now host ≡ ticking now (losing host.object)
  -- as what comes leaves it, it stands where its contacts tell, and at most the moves told wait for their reports besides
  -- the one before; where the link stays open each telegram told is a move
  pub stands : (moved_by tells).sensed ≡ position_told input host.object.sensed
  pub waits : unanswered (moved_by tells).progress ≤ unanswered (found_by now host).progress + length (moves_in part.told)
  pub commanded : is_open part.host.link.phase ≡ true
      → (unanswered (moved_by tells).progress ≡ unanswered (found_by now host).progress + length part.told) × (length (moves_in part.told) ≡ length part.told)
  -- a drive begins only for a move, and before the initialisation was completed nothing does
  pub drives : moves_in part.told ≡ [] → is_moving (moved_by tells) ≡ true → is_moving (found_by now host) ≡ true
  pub early : is_completed (stage_by now input host) ≡ false → (found_by now host).progress ≡ Answered → (moved_by tells).progress ≡ Answered
  -- a final report tells where the point stands, or a timeout; none is made while the point is driven, and one at most for
  -- each move that waits
  pub finals : All (IsFinal (moved_by tells).sensed) tells.reports
  pub still : is_moving (moved_by tells) ≡ true → tells.reports ≡ []
  pub few : length tells.reports ≤ unanswered (moved_by tells).progress
  -- answers of the version tell the host's own one
  pub versions : All (IsVersionAnswer point_behaviour host.version) tells.says.answers
  -- the initial status, if any, is where it stood as the step began, and what contacts tell has none
  pub initial : AreSomeOf tells.says.begins (initial_reports host.object.sensed)
  pub contacts : (position_told input host.object.sensed ≡ host.object.sensed) ⊎ (tells.says.begins ≡ [])
  -- after the step it stands there; in a connection it is driven as before the reports, and each move that waits no longer
  -- had its report
  pub stands_after : part.host.object.sensed ≡ (moved_by tells).sensed
  pub until : part.host.object.until ≡ alive_until part.host.link
  pub inside : is_open part.host.link.phase ≡ true → is_moving part.host.object ≡ is_moving (moved_by tells)
  pub answers : is_open part.host.link.phase ≡ true → is_completed (stage_by now input host) ≡ true
      → length tells.reports + unanswered part.host.object.progress ≡ unanswered (moved_by tells).progress
  -- until the initialisation was completed, and out of any connection, every move is answered
  pub answered : ((is_completed host.stage ≡ false) → host.object.progress ≡ Answered) → is_completed part.host.stage ≡ false → part.host.object.progress ≡ Answered

-- What a point that is in a connection has reported there, where these are the items given and the telegrams told in it.
pub record IsReporting (items : List (List ℕ)) (told : List Telegram) (host : HostState PointState) : Type 0 where
  -- where it stood as the initialisation was completed; answers of the version, what the initialisation said of it, and the
  -- final reports
  pub stood : Position
  pub answers : List Report
  pub begins : List Report
  pub finals : List Report
  -- they are what was given, in this order
  pub given : items ≡ map (item_of host) ((answers ++ begins) ++ finals)
  pub are_answers : All (IsVersionAnswer point_behaviour host.version) answers
  pub are_some : AreSomeOf begins (initial_reports stood)
  pub are_final : All (λ report. (stands : Position) × IsFinal stands report) finals
  -- until the initialisation was completed there are answers of the version alone
  pub early : is_completed host.stage ≡ false → (begins ≡ []) × (finals ≡ [])
  -- each telegram told is a move, and each has one final report or waits for it
  pub moves : length (moves_in told) ≡ length told
  pub each : length finals + unanswered host.object.progress ≡ length told

-- What holds of a point in its host: in a connection it reports so. The clock alone tells it of no loss, but then its moment
-- has come.
pub record IsReported (world : World PointState) : Type 0 where
  pub steady : IsSteady point_behaviour (host_of world)
  pub until : world.object.until ≡ alive_until world.ends.server.link
  pub answered : is_completed world.stage ≡ false → world.object.progress ≡ Answered
  pub inside : is_open world.ends.server.link.phase ≡ true → IsReporting world.ends.server.given world.told (host_of world)
  pub late : is_open world.ends.server.link.phase ≡ false → is_outside world.stage ≡ false
      → alive_until world.ends.server.link ≤ reading_of world.ends.server.clock

-- the host as a step finds it, but for its link
abbrev pub found_host : ℕ → HostState PointState → HostState PointState
found_host now host = record host { stage = (beginning point_behaviour now host).stage; object = found_by now host }

-- How a step finds a point, where these are the items given and the telegrams told in its connection: it has reported so;
-- until the initialisation was completed every move is answered; and it is driven only if it was before.
pub record IsFound (now : ℕ) (items : List (List ℕ)) (told : List Telegram) (host : HostState PointState) : Type 0 where
  pub reporting : IsReporting items told (found_host now host)
  pub answered : is_completed (beginning point_behaviour now host).stage ≡ false → (found_by now host).progress ≡ Answered
  pub drive : is_moving (found_by now host) ≡ true → is_moving host.object ≡ true

-- a report that tells a position tells this one
abbrev pub TellsOnly : Position → Report → Type 0
TellsOnly stands report = (position : Position) → report ≡ own_report (Point (PointPosition position)) → position ≡ stands

-- What a step gives are reports, and a position that they tell is where the point stands.
pub record GivesStanding (part : HostSoFar PointState) (items : List (List ℕ)) : Type 0 where
  pub reports : List Report
  pub gives : items ≡ map (item_of part.host) reports
  pub stands : All (TellsOnly part.host.object.sensed) reports
