use Rattle.draw_desk.proofs.WorkedRequests.{worked}
use Rattle.draw_desk.proofs.laws.requests_are_as_worked_by_hand.Goals as goal

pub returns : goal.returns
returns c = worked
