use Rattle.line_laws.proofs.Moves.{run-append, known_through}
use Rattle.line_laws.proofs.laws.moves_follow_one_another.Goals as goal

pub returns-clause-run : goal.returns-clause-run
returns-clause-run c = run-append

pub returns-clause-known : goal.returns-clause-known
returns-clause-known c = known_through
