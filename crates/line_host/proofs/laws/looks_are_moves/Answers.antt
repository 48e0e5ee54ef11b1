use Rattle.line_host.proofs.Sites.{moves_end, moves_file, moves_give}
use Rattle.line_host.proofs.laws.looks_are_moves.Goals as goal

pub returns-clause-end : goal.returns-clause-end
returns-clause-end c = moves_end

pub returns-clause-file : goal.returns-clause-file
returns-clause-file c = moves_file

pub returns-clause-gives : goal.returns-clause-gives
returns-clause-gives c = moves_give
