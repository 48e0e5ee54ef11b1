use Rattle.line_laws.proofs.Moves.{run_sound, locked_token}
use Rattle.line_laws.proofs.laws.locked_end_has_the_token.Goals as goal

pub returns : goal.returns
returns c = λ side first_busy second_busy moves. locked_token side (run_sound first_busy second_busy moves)
