use Rattle.ixl.proofs.StepAnswers.{may_follow}
use Rattle.ixl.proofs.laws.steps_may_follow_at_later_clocks.Goals as goal

pub returns : goal.returns
returns c now later state at within = may_follow now later state at within
