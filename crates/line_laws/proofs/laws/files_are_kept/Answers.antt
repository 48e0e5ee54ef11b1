use Rattle.line_laws.proofs.Moves.{run_sound, same_file}
use Rattle.line_laws.proofs.laws.files_are_kept.Goals as goal

pub returns : goal.returns
returns c = λ side first_busy second_busy moves. same_file side (run_sound first_busy second_busy moves)
