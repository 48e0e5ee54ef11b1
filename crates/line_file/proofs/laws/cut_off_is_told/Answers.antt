use Rattle.line_file.proofs.Texts.{read_cut}
use Rattle.line_file.proofs.laws.cut_off_is_told.Goals as goal

pub returns : goal.returns
returns c = read_cut
