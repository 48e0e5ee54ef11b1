use Rattle.run_files.proofs.Again.{again}
use Rattle.run_files.proofs.laws.parts_are_read_again.Goals as goal

pub returns : goal.returns
returns c = again
