use Rattle.railway_layout.proofs.StationsFound.{no_layout}
use Rattle.railway_layout.proofs.found.faulty.Goals as goal

pub returns-in_default : goal.returns-in_default
returns-in_default c = no_layout c.args.fault c.in_default.not-OutOfMemory
