use Rattle.line_end.proofs.Came.{unwritten_same, written_new, written_has}
use Rattle.line_end.proofs.laws.what_has_changed_is_written.Goals as goal

pub returns-clause-none : goal.returns-clause-none
returns-clause-none c = unwritten_same

pub returns-clause-some : goal.returns-clause-some
returns-clause-some c = written_new

pub returns-clause-after : goal.returns-clause-after
returns-clause-after c = written_has
