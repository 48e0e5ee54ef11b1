use Rattle.train_machine.proofs.Kept.{first_kept, move_kept, run_kept}
use Rattle.train_machine.proofs.Composed.{reached_kept}
use Rattle.train_machine.proofs.laws.invariant_is_kept.Goals as goal

pub returns-clause-first : goal.returns-clause-first
returns-clause-first c = first_kept

pub returns-clause-each : goal.returns-clause-each
returns-clause-each c = λ track machine move sound kept may. move_kept track sound machine kept move may

pub returns-clause-run : goal.returns-clause-run
returns-clause-run c = λ track machine moves sound kept may. run_kept track sound moves machine kept may

pub returns-clause-reached : goal.returns-clause-reached
returns-clause-reached c = λ track old new sound kept reaches. reached_kept track sound old new kept reaches
