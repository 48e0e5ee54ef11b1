use Rattle.rasta_core.proofs.Clocks.{started_timely}
use Rattle.rasta_core.proofs.true_time.starts_in_time.Goals as goal

pub returns : goal.returns
returns c = λ names start are. (started_timely names start are).timely
