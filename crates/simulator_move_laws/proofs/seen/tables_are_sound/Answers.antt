use Rattle.simulator_move_laws.proofs.Interlocking.Tables.{sound}
use Rattle.simulator_move_laws.proofs.seen.tables_are_sound.Goals as goal

pub returns : goal.returns
returns c = sound
