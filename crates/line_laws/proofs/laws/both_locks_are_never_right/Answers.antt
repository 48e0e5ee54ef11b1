use Rattle.line_laws.proofs.Moves.{run_sound, one_locked}
use Rattle.line_laws.proofs.laws.both_locks_are_never_right.Goals as goal

pub returns : goal.returns
returns c = λ first_busy second_busy moves. one_locked (run_sound first_busy second_busy moves)
