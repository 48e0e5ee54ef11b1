-- A point: what each call of its controller does. Times are in milliseconds of its own clock. The rules are
-- this project's own.
use Rattle.std.specs.Prelude.{ℕ, zero, suc, ◌+◌, ◌-◌, ◌^◌, min, nat_le, nat_lt, ◌&&◌, Bool, true, false, Option, Some, None, if◌then◌else◌}
use Rattle.sci_telegram.specs.declared.message.Side.{Side}
use Rattle.sci_telegram.specs.declared.message.Side.TheVariants as side
use Rattle.sci_telegram.specs.declared.message.Position.{Position}
use Rattle.sci_telegram.specs.declared.message.Position.TheVariants as position
use Rattle.sci_telegram.specs.declared.message.PointMessage.TheVariants.{MovePoint, PointPosition, Timeout}
use Rattle.sci_telegram.specs.declared.message.Message.{Message}
use Rattle.sci_telegram.specs.declared.message.Message.TheVariants.{Point}
use Rattle.sci_telegram.specs.declared.telegram.Telegram.{Telegram}
use Rattle.object_host.specs.declared.report.Report.{Report}
use Rattle.object_host.specs.declared.sense.Sense.{Sense}
use Rattle.object_host.specs.declared.sense.Sense.TheVariants as sense
use Rattle.point_ctl.specs.declared.drive.Drive.{Drive}
use Rattle.point_ctl.specs.declared.progress.Progress.{Progress}
use Rattle.point_ctl.specs.declared.progress.Progress.TheVariants.{Answered, Driving, Arrived, TimedOut}

-- how long a move drives the point at most
abbrev pub drive_limit : ℕ
drive_limit = 10000

-- the moment at which a drive ends at the latest: the sum stops at the greatest 64-bit number
abbrev pub drive_end : ℕ → ℕ
drive_end since = min (since + drive_limit) (2 ^ 64 - 1)

-- a point: where it was last sensed, how far its last move has come, and the moment from which it isn't driven
pub record PointState : Type 0 where
  pub sensed : Position
  pub progress : Progress
  pub until : ℕ

-- a point that was told nothing yet lies where it was sensed, and isn't driven
abbrev pub made : Position → PointState
made sensed = record { sensed = sensed; progress = Answered; until = 0 }

-- whether a position is the end position at a side
abbrev pub is_at : Side → Position → Bool
is_at side.Right position.Right = true
is_at side.Left position.Left = true
is_at side.Right position.Left = false
is_at side.Right position.NoEndPosition = false
is_at side.Left position.Right = false
is_at side.Left position.NoEndPosition = false

-- the side that a telegram commands, if it is a move
abbrev pub commanded_by : Message → Option Side
commanded_by (Point (MovePoint side)) = Some side
commanded_by _ = None

-- every move that was taken has been answered
abbrev pub is_answered : Progress → Bool
is_answered Answered = true
is_answered _ = false

-- the side to which a move that fits is to drive: it fits where the last one has been answered
abbrev pub move_taken : Telegram → PointState → Option Side
move_taken telegram point = if is_answered point.progress then commanded_by telegram.message else None

-- a move to the side at which the point lies is done; any other begins the drive
abbrev pub begun : ℕ → PointState → Option Side → Progress
begun now point None = point.progress
begun now point (Some side) = if is_at side point.sensed then Arrived else Driving side now

abbrev pub taking : ℕ → Telegram → PointState → PointState
taking now telegram point = record point { progress = begun now point (move_taken telegram point) }

-- at its limit a drive has ended
abbrev pub limited : ℕ → Progress → Progress
limited now (Driving side since) = if nat_le (drive_end since) now then TimedOut else Driving side since
limited now progress = progress

abbrev pub ticking : ℕ → PointState → PointState
ticking now point = record point { progress = limited now point.progress }

-- a drive ends where the commanded position is sensed
abbrev pub reached : Position → Progress → Progress
reached position (Driving side since) = if is_at side position then Arrived else Driving side since
reached position progress = progress

-- the clock acts first, so a commanded position that is sensed at the limit or later is a timeout; the contact of
-- anything but a point says nothing
abbrev pub sensing : ℕ → Sense → PointState → PointState
sensing now (sense.Position position) point =
    record point { sensed = position; progress = reached position (limited now point.progress) }
sensing now (sense.Section place occupancy) point = point

abbrev pub keeping : ℕ → PointState → PointState
keeping until point = record point { until = until }

-- what it says of itself as its controller's own report
abbrev pub own_report : Message → Report
own_report message = record { section = None; message = message }

abbrev pub position_report : PointState → Report
position_report point = own_report (Point (PointPosition point.sensed))

-- the final report that is owed: the timeout, or where the point lies now. It is made anew until it is sent, so where
-- a contact changes in between it tells that: a side is never reported that isn't sensed
abbrev pub final_report : Progress → PointState → Option Report
final_report Answered point = None
final_report (Driving side since) point = None
final_report Arrived point = Some (position_report point)
final_report TimedOut point = Some (own_report (Point Timeout))

abbrev pub owing : PointState → Option Report
owing point = final_report point.progress point

-- a final report was sent
abbrev pub answered : Progress → Progress
answered (Driving side since) = Driving side since
answered _ = Answered

abbrev pub paying : PointState → PointState
paying point = record point { progress = answered point.progress }

-- with the link the drive ends, and nothing is owed
abbrev pub losing : PointState → PointState
losing point = record point { progress = Answered }

-- the initial status
abbrev pub status_at : ℕ → PointState → Option Report
status_at zero point = Some (position_report point)
status_at (suc place) point = None

-- the side of a move in progress
abbrev pub move_in : Progress → Option Side
move_in (Driving side since) = Some side
move_in _ = None

-- the side to which the point is driven at a clock reading: a function of the clock, not of the steps made until then
abbrev pub driven : ℕ → ℕ → Progress → Option Side
driven now until (Driving side since) = if nat_lt now (drive_end since) && nat_lt now until then Some side else None
driven now until _ = None

abbrev pub drives : ℕ → PointState → Option Side
drives now point = driven now point.until point.progress

-- the drive of the move in progress: its side, and the earlier of its limit and the moment last kept
abbrev pub drive_of : PointState → Option Drive
drive_of point = under_way point.progress where
  under_way : Progress → Option Drive
  under_way (Driving side since) = Some (record { side = side; until = min (drive_end since) point.until })
  under_way _ = None

-- the side to which a drive drives at a clock reading
abbrev pub driven_by : Option Drive → ℕ → Option Side
driven_by None now = None
driven_by (Some drive) now = if nat_lt now drive.until then Some drive.side else None
