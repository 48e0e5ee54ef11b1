use Rattle.simulator_machine.specs.Run.{right_rules, run, first}
use Rattle.simulator_machine.proofs.Kept.{first_kept, run_kept, promised}
use Rattle.simulator_machine.proofs.Composed.{reached_kept}
use Rattle.simulator_machine.proofs.laws.promise_holds.Goals as goal

pub returns-clause-run : goal.returns-clause-run
returns-clause-run c = λ table positions moves sound may.
    promised table sound (run right_rules table moves (first positions)) (run_kept table sound moves (first positions) (first_kept table positions) may)

pub returns-clause-reached : goal.returns-clause-reached
returns-clause-reached c = λ table positions machine sound reached.
    promised table sound machine (reached_kept table sound (first positions) machine (first_kept table positions) reached)
