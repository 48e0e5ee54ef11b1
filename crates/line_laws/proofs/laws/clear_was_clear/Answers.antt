use Rattle.line_laws.specs.Run.{begins}
use Rattle.line_laws.proofs.Moves.{run_sound, told_clear_known}
use Rattle.line_laws.proofs.laws.clear_was_clear.Goals as goal

pub returns : goal.returns
returns c = λ side first_busy second_busy moves. told_clear_known side (begins first_busy second_busy) moves (run_sound first_busy second_busy moves)
