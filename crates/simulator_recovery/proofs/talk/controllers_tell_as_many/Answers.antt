use Rattle.simulator_recovery.proofs.Lemmas.Talk.Standing.{detectors_tell, points_tell, signals_tell}
use Rattle.simulator_recovery.proofs.talk.controllers_tell_as_many.Goals as goal

pub returns-clause-signal : goal.returns-clause-signal
returns-clause-signal c = signals_tell

pub returns-clause-point : goal.returns-clause-point
returns-clause-point c = points_tell

pub returns-clause-detector : goal.returns-clause-detector
returns-clause-detector c = detectors_tell
