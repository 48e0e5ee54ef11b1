use Rattle.station_layout.proofs.ListingLaws.{conflict_told, told_conflicts}
use Rattle.station_layout.proofs.laws.each_conflict_is_told.Goals as goal

pub returns-clause-told : goal.returns-clause-told
returns-clause-told c = conflict_told

pub returns-clause-only : goal.returns-clause-only
returns-clause-only c = told_conflicts
