use Rattle.line_file.proofs.Owners.{read_other_end, read_other_line}
use Rattle.line_file.proofs.laws.no_text_is_of_two_ends.Goals as goal

pub returns-clause-end : goal.returns-clause-end
returns-clause-end c = read_other_end

pub returns-clause-line : goal.returns-clause-line
returns-clause-line c = read_other_line
