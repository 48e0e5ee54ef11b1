use Rattle.simulator_recovery.proofs.Lemmas.Points.MovesComeOver.{come_over}
use Rattle.simulator_recovery.proofs.points.moves_come_over.Goals as goal

pub returns : goal.returns
returns c = come_over c.laws_below.ensures
