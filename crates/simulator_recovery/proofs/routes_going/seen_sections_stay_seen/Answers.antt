use Rattle.simulator_recovery.proofs.Lemmas.RoutesGoing.PassageStays.{seen_stays}
use Rattle.simulator_recovery.proofs.routes_going.seen_sections_stay_seen.Goals as goal

pub returns : goal.returns
returns c = seen_stays
