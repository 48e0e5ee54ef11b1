use Rattle.rasta_core.proofs.Runs.{event_kept}
use Rattle.rasta_core.proofs.true_time.every_event_keeps_time.Goals as goal

pub returns : goal.returns
returns c = event_kept c.written_is_read.ensures.read c.read_was_written.ensures.intact
