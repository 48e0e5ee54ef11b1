use Rattle.simulator_safety.proofs.AllEvents.{can_go_on, goes_on}
use Rattle.simulator_safety.proofs.headline.lists_of_events_go_on.Goals as goal

pub returns : goal.returns
returns c = record { can = can_go_on; after = goes_on }
