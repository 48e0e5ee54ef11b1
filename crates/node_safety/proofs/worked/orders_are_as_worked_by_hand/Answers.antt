use Rattle.node_safety.proofs.WorkedRuns.{drifts, tells, too_old, undriven}
use Rattle.node_safety.proofs.worked.orders_are_as_worked_by_hand.Goals as goal

pub returns : goal.returns
returns c = record { clocks = drifts; contacts = undriven; detectors = tells; datagrams = too_old }
