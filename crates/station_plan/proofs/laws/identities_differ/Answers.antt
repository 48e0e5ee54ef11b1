use Rattle.station_plan.proofs.Identities.{apart, not_notes}
use Rattle.station_plan.proofs.laws.identities_differ.Goals as goal

pub returns-clause-apart : goal.returns-clause-apart
returns-clause-apart c = apart

pub returns-clause-notes : goal.returns-clause-notes
returns-clause-notes c = not_notes
