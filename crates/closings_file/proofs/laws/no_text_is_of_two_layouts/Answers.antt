use Rattle.closings_file.proofs.Written.{read_other}
use Rattle.closings_file.proofs.laws.no_text_is_of_two_layouts.Goals as goal

pub returns : goal.returns
returns c = read_other
