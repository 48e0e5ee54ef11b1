use Rattle.std.proofs.Common.{List, subst}
use Rattle.replay.specs.replay_lines.declared.session.Entry.{Entry}
use Rattle.station_record.specs.CapturedSession.{Explains}
use Rattle.replay.specs.station_check.declared.failure.Failure.{Failure}
use Rattle.station_record.specs.inside.CapturesSoFar.{IsNoFile}
use Rattle.station_record.proofs.Ended.{told_on}
use Rattle.station_record.proofs.NoCapture.{no_file}
use Rattle.station_record.proofs.capture.session_capture.Goals as goal

pub returns-in_err-file-clause-explains : goal.returns-in_err-file-clause-explains
returns-in_err-file-clause-explains c =
    let layout = c.args.layout.now
    in let recording = c.args.recording.now
    in let texts = c.in_ok-texts.texts
    in let why = c.in_err-file.field-0.0
    in let none = subst (λ (entries : List Entry). IsNoFile texts.table entries why) c.deref.ensures.value c.in_err-file.ensures.failed
    in told_on (λ (failure : Failure). Explains layout recording failure) c.from_residual-in_err-file.result why c.from_residual-in_err-file.ensures.1
    (no_file layout recording texts.table texts.entries.items why c.in_ok-texts.ensures.read none)
