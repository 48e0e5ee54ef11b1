use Rattle.rasta_core.proofs.DriftKept.{all_come, drift_keeps}
use Rattle.rasta_core.proofs.true_clocks.drift_by_events_keeps_time.Goals as goal

pub returns-clause-come : goal.returns-clause-come
returns-clause-come c = all_come

pub returns-clause-time : goal.returns-clause-time
returns-clause-time c = drift_keeps
