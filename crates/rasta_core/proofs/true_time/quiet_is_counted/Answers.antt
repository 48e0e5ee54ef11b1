use Rattle.rasta_core.proofs.Conclusions.{out_as_known}
use Rattle.rasta_core.proofs.Runs.{started_out, restarted_out, left_out, kept_out}
use Rattle.rasta_core.proofs.true_time.quiet_is_counted.Goals as goal

pub returns-clause-made : goal.returns-clause-made
returns-clause-made c = started_out

pub returns-clause-made_anew : goal.returns-clause-made_anew
returns-clause-made_anew c = restarted_out

pub returns-clause-left : goal.returns-clause-left
returns-clause-left c = left_out c.written_is_read.ensures.read c.read_was_written.ensures.intact

pub returns-clause-kept : goal.returns-clause-kept
returns-clause-kept c = kept_out c.written_is_read.ensures.read c.read_was_written.ensures.intact

pub returns-clause-known : goal.returns-clause-known
returns-clause-known c = out_as_known
