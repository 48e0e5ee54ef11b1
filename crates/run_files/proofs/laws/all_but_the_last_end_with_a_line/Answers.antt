use Rattle.run_files.specs.Parts.{nothing}
use Rattle.run_files.proofs.Again.{closed_end}
use Rattle.run_files.proofs.laws.all_but_the_last_end_with_a_line.Goals as goal

pub returns : goal.returns
returns c = λ size text. closed_end size text nothing tt
