-- To where a point's motor has to drive, and where the point lies, as C tells and is told.
use Rattle.std.specs.Prelude.{ℕ, zero, suc, Option, Some, None}
use Rattle.sci_telegram.specs.declared.message.Position.{Position}
use Rattle.sci_telegram.specs.declared.message.Position.TheVariants as positions
use Rattle.sci_telegram.specs.declared.message.Side.{Side}
use Rattle.sci_telegram.specs.declared.message.Side.TheVariants as sides
use Rattle.object_host.specs.declared.sense.Sense.{Sense}
use Rattle.object_host.specs.declared.sense.Sense.TheVariants as senses
use Rattle.point_ctl.specs.Drive.{PointState, drive_of, drives}
use Rattle.point_ctl.specs.declared.drive.Drive.{Drive}
use Rattle.controllers_c.specs.declared.drive.DriveOrder.{DriveOrder}

abbrev pub side_number : Option Side → ℕ
side_number None = 0
side_number (Some sides.Left) = 1
side_number (Some sides.Right) = 2

abbrev pub until_told : Option Drive → ℕ
until_told (Some drive) = drive.until
until_told None = 0

-- to where it drives at a reading, and the reading from which it doesn't with no call in between
abbrev pub drive_told : PointState → ℕ → DriveOrder
drive_told point now = record { side = side_number (drives now point); until = until_told (drive_of point) }

abbrev pub position_of : ℕ → Option Position
position_of zero = Some positions.NoEndPosition
position_of (suc zero) = Some positions.Left
position_of (suc (suc zero)) = Some positions.Right
position_of (suc (suc (suc more))) = None

-- what its contacts tell by a number
abbrev pub sensed : Option Position → Option Sense
sensed None = None
sensed (Some position) = Some (senses.Position position)

abbrev pub contact_of : ℕ → Option Sense
contact_of number = sensed (position_of number)
