use Rattle.line_file.proofs.Texts.{read_again}
use Rattle.line_file.proofs.laws.written_is_read.Goals as goal

pub returns : goal.returns
returns c = read_again
