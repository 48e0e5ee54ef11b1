use Rattle.run_files.proofs.Sizes.{all_longer}
use Rattle.run_files.proofs.laws.a_part_is_longer_by_its_last_line_alone.Goals as goal

pub returns : goal.returns
returns c = all_longer
