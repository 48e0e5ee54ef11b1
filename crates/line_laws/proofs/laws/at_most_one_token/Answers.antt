use Rattle.line_laws.proofs.Moves.{run_sound, one_token}
use Rattle.line_laws.proofs.laws.at_most_one_token.Goals as goal

pub returns-clause-ends : goal.returns-clause-ends
returns-clause-ends c = λ first_busy second_busy moves. one_token (run_sound first_busy second_busy moves)

pub returns-clause-on_the_way : goal.returns-clause-on_the_way
returns-clause-on_the_way c = λ first_busy second_busy moves. (run_sound first_busy second_busy moves).ends.one_token
