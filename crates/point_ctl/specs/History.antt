-- What a point has been told and has answered in its connection.
use Rattle.std.specs.Prelude.{◌≡◌, ℕ, ◌+◌, ◌⊎◌, true, List, [], ◌∷◌, length, Option, Some, None, is_some}
use Rattle.sci_telegram.specs.declared.message.Side.{Side}
use Rattle.sci_telegram.specs.declared.message.Side.TheVariants as side
use Rattle.sci_telegram.specs.declared.message.Position.{Position}
use Rattle.sci_telegram.specs.declared.message.Position.TheVariants as position
use Rattle.sci_telegram.specs.declared.message.PointMessage.TheVariants.{PointPosition, Timeout}
use Rattle.sci_telegram.specs.declared.message.Message.TheVariants.{Point}
use Rattle.object_host.specs.declared.report.Report.{Report}
use Rattle.object_host.specs.Object.{ObjectCall, Takes, Senses, Pays, Loses, object_after}
use Rattle.object_host.specs.declared.sense.Sense.TheVariants as sense
use Rattle.point_ctl.specs.declared.progress.Progress.{Progress}
use Rattle.point_ctl.specs.declared.progress.Progress.TheVariants.{Answered, Driving, Arrived, TimedOut}
use Rattle.point_ctl.specs.Controlled.{point_behaviour}
use Rattle.point_ctl.specs.Drive.{PointState, move_taken, taking, own_report, owing, paying, losing, drives}

-- a point, the moves that were taken since the last loss of the link, and the final reports that were sent since,
-- both with the newest first
pub record History : Type 0 where
  pub point : PointState
  pub moves : List Side
  pub reports : List Report

abbrev pub one_more : {A : Type 0} → Option A → List A → List A
one_more None rest = rest
one_more (Some newest) rest = newest ∷ rest

-- the next call
abbrev pub next : ObjectCall → History → History
next (Takes now telegram) old = record {
  point = taking now telegram old.point;
  moves = one_more (move_taken telegram old.point) old.moves;
  reports = old.reports;
}
next Pays old = record {
  point = paying old.point;
  moves = old.moves;
  reports = one_more (owing old.point) old.reports;
}
next Loses old = record { point = losing old.point; moves = []; reports = [] }
next call old = record old { point = object_after point_behaviour call old.point }

-- a list of calls, one after the other
abbrev pub told : List ObjectCall → History → History
told [] old = old
told (call ∷ calls) old = told calls (next call old)

abbrev pub begun_at : PointState → History
begun_at point = record { point = point; moves = []; reports = [] }

-- how many moves wait for their final report
abbrev pub unanswered : Progress → ℕ
unanswered Answered = 0
unanswered _ = 1

-- the move in progress is the one that was taken last
abbrev pub IsLastMove : Progress → List Side → Type 0
IsLastMove (Driving side since) moves = (older : List Side) × (moves ≡ side ∷ older)
IsLastMove _ moves = Unit {0}

-- each move has one final report or waits for it, and the one in progress was taken last
pub record IsAnsweredOnce (history : History) : Type 0 where
  pub each : length history.reports + unanswered history.point.progress ≡ length history.moves
  pub last : IsLastMove history.point.progress history.moves

-- where a drive to a side is to end
abbrev pub position_of : Side → Position
position_of side.Right = position.Right
position_of side.Left = position.Left

-- a final report answers a move: the position commanded, or the timeout
abbrev pub Answers : Side → Report → Type 0
Answers side report = (report ≡ own_report (Point (PointPosition (position_of side)))) ⊎ (report ≡ own_report (Point Timeout))

-- each report answers the move at its place
abbrev pub AnswerEach : List Side → List Report → Type 0
AnswerEach [] [] = Unit {0}
AnswerEach (move ∷ moves) (report ∷ reports) = Answers move report × AnswerEach moves reports
AnswerEach [] (report ∷ reports) = ⊥
AnswerEach (move ∷ moves) [] = ⊥

-- what is reported of the moves: all were answered; or all but the newest, and with no drive for it the point lies
-- where that commands or the timeout is owed
abbrev pub Reported : Progress → Position → List Side → List Report → Type 0
Reported Answered sensed moves reports = AnswerEach moves reports
Reported progress sensed [] reports = ⊥
Reported (Driving side since) sensed (move ∷ moves) reports = (side ≡ move) × AnswerEach moves reports
Reported Arrived sensed (move ∷ moves) reports = (sensed ≡ position_of move) × AnswerEach moves reports
Reported TimedOut sensed (move ∷ moves) reports = AnswerEach moves reports

pub record IsReported (history : History) : Type 0 where
  pub reported : Reported history.point.progress history.point.sensed history.moves history.reports

-- the contacts of a point tell of a change only while it is driven
abbrev pub IsMovedByItsDrive : ObjectCall → PointState → Type 0
IsMovedByItsDrive (Senses now (sense.Position position)) point =
    (position ≡ point.sensed) ⊎ (is_some (drives now point) ≡ true)
IsMovedByItsDrive _ point = Unit {0}

abbrev pub AreMovedByTheDrive : List ObjectCall → History → Type 0
AreMovedByTheDrive [] history = Unit {0}
AreMovedByTheDrive (call ∷ calls) history =
    IsMovedByItsDrive call history.point × AreMovedByTheDrive calls (next call history)

-- a move of this side that fits, at this clock reading
abbrev pub IsMove : Side → ℕ → ObjectCall → PointState → Type 0
IsMove side since (Takes now telegram) point = (move_taken telegram point ≡ Some side) × (now ≡ since)
IsMove side since _ point = ⊥
