-- Why a panel didn't begin, or was broken off.
use Rattle.std.specs.Prelude.{◌≡◌, ◌≢◌, ◌⊎◌}
use Rattle.std.specs.declared.io.ErrorKind.{ErrorKind}
use Rattle.std.specs.declared.io.ErrorKind.TheVariants as kinds
use Rattle.station_drive.specs.declared.fault.DriveFault.{DriveFault}
use Rattle.station_drive.specs.declared.fault.DriveFault.TheVariants as drive
use Rattle.station_panel.specs.declared.ending.PanelFault.{PanelFault}
use Rattle.station_panel.specs.declared.ending.PanelFault.TheVariants.{OutOfMemory, CannotRun}

-- where the system refuses something: it lacks memory, or it is anything else
abbrev pub IsOfSystem : ErrorKind → PanelFault → Type 0
IsOfSystem kind fault = ((kind ≡ kinds.OutOfMemory) × (fault ≡ OutOfMemory)) ⊎ ((kind ≢ kinds.OutOfMemory) × (fault ≡ CannotRun))

-- where a drive ended before its time
abbrev pub of_drive : DriveFault → PanelFault
of_drive drive.OutOfMemory = OutOfMemory
of_drive drive.WriteFailed = CannotRun
