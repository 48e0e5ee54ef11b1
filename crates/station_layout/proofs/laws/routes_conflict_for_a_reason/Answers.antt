use Rattle.station_layout.proofs.ReasonLaws.{told_exactly}
use Rattle.station_layout.proofs.laws.routes_conflict_for_a_reason.Goals as goal

pub returns : goal.returns
returns c = told_exactly
