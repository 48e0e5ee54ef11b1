-- What comes of a capture that is written to a file of its own.
use Rattle.std.specs.Prelude.{ℕ, List}
use Rattle.capture_file.specs.declared.fault.CaptureFault.TheVariants.{Exists, CannotWrite}
use Rattle.capture_file.specs.declared.journey.Endpoint.{Endpoint}
use Rattle.replay.specs.station_check.declared.failure.Failure.{Failure}
use Rattle.replay.specs.station_check.declared.failure.Failure.TheVariants.{Capture}
use Rattle.station_record.specs.CapturedSession.{Explains as ExplainsCapture, IsSessionCapture}

-- a session has a capture
pub record HasCapture (layout text : List ℕ) (given : List Endpoint) : Type 0 where
  pub file : List ℕ
  pub is : IsSessionCapture layout text given file

-- Why there is no new file: there is no capture; or there is one, but a file of that name too, or the system doesn't write it.
abbrev pub Explains : List ℕ → List ℕ → List Endpoint → Failure → Type 0
Explains layout text given (Capture Exists) = HasCapture layout text given
Explains layout text given (Capture CannotWrite) = HasCapture layout text given
Explains layout text given why = ExplainsCapture layout text why
