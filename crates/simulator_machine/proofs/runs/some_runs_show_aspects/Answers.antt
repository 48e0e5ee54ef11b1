use Rattle.simulator_machine.proofs.Broken.{small_sound}
use Rattle.simulator_machine.proofs.runs.some_runs_show_aspects.Goals as goal

pub returns-clause-sound : goal.returns-clause-sound
returns-clause-sound c = small_sound
