use Rattle.rasta_core.proofs.TrueClocks.{at_once_by, passes_by, starts_by}
use Rattle.rasta_core.proofs.true_clocks.ends_keep_time_by_their_offsets.Goals as goal

pub returns-clause-starts : goal.returns-clause-starts
returns-clause-starts c = starts_by

pub returns-clause-passes : goal.returns-clause-passes
returns-clause-passes c = passes_by

pub returns-clause-at_once : goal.returns-clause-at_once
returns-clause-at_once c = λ names offsets event ends are is once may.
    at_once_by c.written_is_read.ensures.read c.read_was_written.ensures.intact names offsets ends are is event once may
