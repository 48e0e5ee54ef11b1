use Rattle.line_begin.proofs.Events.{makes_these_events}
use Rattle.line_begin.proofs.laws.begin_makes_these_events.Goals as goal

pub returns : goal.returns
returns c = makes_these_events
