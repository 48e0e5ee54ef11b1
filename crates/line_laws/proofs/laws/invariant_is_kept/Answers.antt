use Rattle.line_laws.proofs.Moves.{run_sound, begins_sound, move_kept}
use Rattle.line_laws.proofs.laws.invariant_is_kept.Goals as goal

pub returns-clause-begins : goal.returns-clause-begins
returns-clause-begins c = λ first second first_busy second_busy. begins_sound first_busy second_busy

pub returns-clause-each : goal.returns-clause-each
returns-clause-each c = λ first second line move sound. move_kept line sound move

pub returns-clause-run : goal.returns-clause-run
returns-clause-run c = run_sound
