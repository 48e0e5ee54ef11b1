use Rattle.station_plan.proofs.SubjectsOnce.{once}
use Rattle.station_plan.proofs.laws.subjects_stand_once.Goals as goal

pub returns : goal.returns
returns c = once
