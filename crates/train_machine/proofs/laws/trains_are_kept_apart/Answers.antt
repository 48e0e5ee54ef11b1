use Rattle.train_machine.specs.Run.{right_rules, run, first}
use Rattle.train_machine.proofs.Kept.{first_kept, run_kept, promised, way_found}
use Rattle.train_machine.proofs.laws.trains_are_kept_apart.Goals as goal

pub returns-clause-apart : goal.returns-clause-apart
returns-clause-apart c = λ track standing positions moves sound stand may.
    promised track sound (run right_rules track moves (first standing positions))
    (run_kept track sound moves (first standing positions) (first_kept track standing positions stand) may)

pub returns-clause-way : goal.returns-clause-way
returns-clause-way c = λ track standing positions moves move sound stand may next.
    way_found track sound (run right_rules track moves (first standing positions))
    (run_kept track sound moves (first standing positions) (first_kept track standing positions stand) may) move next
