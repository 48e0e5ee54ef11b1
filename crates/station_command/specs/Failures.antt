-- The status that tells why a command isn't carried out.
use Rattle.std.specs.Prelude.{ℕ}
use Rattle.station_command.specs.declared.failure.Failure.{Failure}
use Rattle.station_command.specs.declared.failure.Failure.TheVariants as failures

-- 2 where the command line is wrong
abbrev pub status_of : Failure → ℕ
status_of (failures.Word place) = 2
status_of failures.SecondInput = 2
status_of failures.NoRecord = 2
status_of failures.Railway = 2
status_of (failures.File name) = 1
status_of (failures.StopFile name) = 1
status_of (failures.PartThere name) = 1
status_of (failures.Parts fault) = 1
status_of failures.OutOfMemory = 1
