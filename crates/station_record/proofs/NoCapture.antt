-- Why there is no capture, and what that says of the texts.
use Rattle.std.proofs.Common.{List, ℕ, IsOk, refl, subst, sym}
use Rattle.capture_file.specs.Faults.{IsOfFile}
use Rattle.capture_file.specs.declared.fault.CaptureFault.{CaptureFault}
use Rattle.capture_file.specs.declared.fault.CaptureFault.TheVariants.{TooLong, Exists, CannotWrite}
use Rattle.capture_file.specs.declared.journey.Endpoint.{Endpoint}
use Rattle.replay.specs.layout.Entries.{Site}
use Rattle.replay.specs.replay_lines.declared.session.Entry.{Entry}
use Rattle.replay.specs.station_check.declared.failure.Failure.{Failure}
use Rattle.replay.specs.station_check.declared.failure.Failure.TheVariants.{Capture, OutOfMemory}
use Rattle.station_record.specs.CapturedSession.{Explains}
use Rattle.station_record.specs.CaptureFiles.{Explains as ExplainsFile, HasCapture}
use Rattle.station_record.specs.inside.CapturesSoFar.{IsNoFile}
use Rattle.station_record.specs.inside.SoundTexts.{AreTexts}

-- a session has no capture
pub no_file : (layout text : List ℕ) (site : Site) (entries : List Entry) (why : Failure) → AreTexts layout text site entries → IsNoFile site entries why → Explains layout text why
no_file layout text site entries OutOfMemory are so = record { site = site; sound = are.sound; says = subst IsOk (sym are.says) refl }
no_file layout text site entries (Capture TooLong) are so = record { site = site; sound = are.sound; entries = entries; says = are.says; sends = so }
no_file layout text site entries other are so = absurd so

-- ---- a file of its own

-- there is no file where there is no capture
pub none_in_file : (layout text : List ℕ) (given : List Endpoint) (why : Failure) → Explains layout text why → ExplainsFile layout text given why
none_in_file layout text given (Capture Exists) so = absurd so
none_in_file layout text given (Capture CannotWrite) so = absurd so
none_in_file layout text given other so = so

-- or the file of one is at fault
pub file_at_fault : (layout text : List ℕ) (given : List Endpoint) (fault : CaptureFault) → HasCapture layout text given → IsOfFile fault → ExplainsFile layout text given (Capture fault)
file_at_fault layout text given TooLong has is = absurd is
file_at_fault layout text given Exists has is = has
file_at_fault layout text given CannotWrite has is = has
