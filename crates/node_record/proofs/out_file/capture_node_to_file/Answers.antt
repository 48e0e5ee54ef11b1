use Rattle.station_check.specs.declared.failure.Failure.TheVariants.{Capture}
use Rattle.node_record.specs.CapturedRecord.{HasCapture}
use Rattle.node_record.specs.NodeEnds.{ends_of}
use Rattle.node_record.proofs.Explained.{file_at_fault}
use Rattle.node_record.proofs.out_file.capture_node_to_file.Goals as goal

pub returns-clause-explains : goal.returns-clause-explains
returns-clause-explains g c =
    let asked = c.args.asked.now
    in let fault = c.in-Err-write_file.fault
    in let has : HasCapture asked.layout.now asked.name.now asked.recording.now (ends_of asked.ends) = record { file = c.in-Ok.capture.items; is = c.in-Ok.ensures.done }
    in λ _. (
      Capture fault,
      (file_at_fault asked.layout.now asked.name.now asked.recording.now (ends_of asked.ends) fault has c.in-Err-write_file.ensures, c.tell-in-Err-write_file.ensures.status),
      c.tell-in-Err-write_file.ensures.told,
    )
