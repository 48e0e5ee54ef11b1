use Rattle.line_begin.proofs.FileNames.{same_ends}
use Rattle.line_begin.proofs.laws.no_two_ends_have_one_file.Goals as goal

pub returns : goal.returns
returns c = same_ends
