-- What contracts inside the crate say. No promise names any of it.
use Rattle.std.specs.Prelude.{◌≡◌, ◌≢◌, ◌⊎◌}
use Rattle.std.specs.declared.io.ErrorKind.{ErrorKind}
use Rattle.std.specs.declared.io.ErrorKind.TheVariants as kinds
use Rattle.station_panel.specs.station_drive.declared.fault.DriveFault.{DriveFault}
use Rattle.station_panel.specs.station_drive.declared.fault.DriveFault.TheVariants as drive
use Rattle.station_panel.specs.station_drive.declared.sockets.OpenFault.{OpenFault}
use Rattle.station_panel.specs.station_drive.declared.sockets.OpenFault.TheVariants as opening
use Rattle.station_record.specs.replay.station_check.declared.failure.Failure.{Failure}
use Rattle.station_record.specs.replay.station_check.declared.failure.Failure.TheVariants.{CannotRun, OutOfMemory, NotWritten}

-- why a run doesn't begin where a socket can't be opened
abbrev pub of_opening : OpenFault → Failure
of_opening opening.OutOfMemory = OutOfMemory
of_opening opening.NoSocket = CannotRun

-- why it doesn't begin where the system refuses something: it lacks memory, or it is anything else
abbrev pub IsOfSystem : ErrorKind → Failure → Type 0
IsOfSystem kind failure = ((kind ≡ kinds.OutOfMemory) × (failure ≡ OutOfMemory)) ⊎ ((kind ≢ kinds.OutOfMemory) × (failure ≡ CannotRun))

-- why it doesn't run on where a drive ended before its time
abbrev pub of_drive : DriveFault → Failure
of_drive drive.OutOfMemory = OutOfMemory
of_drive drive.WriteFailed = CannotRun

-- The machine gives too little: memory, a socket, or a place for the record.
abbrev pub IsOfMachine : Failure → Type 0
IsOfMachine CannotRun = Unit {0}
IsOfMachine OutOfMemory = Unit {0}
IsOfMachine other = ⊥

-- Why a run that has begun ends early.
abbrev pub IsOfRun : Failure → Type 0
IsOfRun CannotRun = Unit {0}
IsOfRun OutOfMemory = Unit {0}
IsOfRun NotWritten = Unit {0}
IsOfRun other = ⊥
