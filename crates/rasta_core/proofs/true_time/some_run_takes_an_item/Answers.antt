use Rattle.rasta_core.proofs.Scenario.{some_run}
use Rattle.rasta_core.proofs.true_time.some_run_takes_an_item.Goals as goal

pub returns : goal.returns
returns c = some_run
