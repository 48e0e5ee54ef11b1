use Rattle.std.proofs.Common.{take}
use Rattle.station_record.specs.CapturedSession.{IsCaptureOf}
use Rattle.station_record.proofs.sent_captured.capture_of.Given as goal

abbrev pub invariant-loop-place : goal.invariant-loop-place
invariant-loop-place l = IsCaptureOf l.given (take l.place l.network.sent) l.file.items
