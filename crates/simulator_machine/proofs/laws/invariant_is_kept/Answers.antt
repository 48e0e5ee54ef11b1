use Rattle.simulator_machine.proofs.Kept.{first_kept, move_kept, run_kept}
use Rattle.simulator_machine.proofs.Composed.{reached_kept}
use Rattle.simulator_machine.proofs.laws.invariant_is_kept.Goals as goal

pub returns-clause-first : goal.returns-clause-first
returns-clause-first c = first_kept

pub returns-clause-each : goal.returns-clause-each
returns-clause-each c = λ table machine move sound kept may. move_kept table sound machine kept move may

pub returns-clause-run : goal.returns-clause-run
returns-clause-run c = λ table machine moves sound kept may. run_kept table sound moves machine kept may

pub returns-clause-reached : goal.returns-clause-reached
returns-clause-reached c = λ table old new sound kept reaches. reached_kept table sound old new kept reaches
