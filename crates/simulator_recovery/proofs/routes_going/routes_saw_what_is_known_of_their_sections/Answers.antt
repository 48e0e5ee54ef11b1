use Rattle.simulator_recovery.proofs.Words.Basics.{false, true}
use Rattle.simulator_recovery.proofs.Lemmas.RoutesGoing.PassageOver.{seen_so}
use Rattle.simulator_recovery.proofs.routes_going.routes_saw_what_is_known_of_their_sections.Goals as goal

pub returns-clause-clear : goal.returns-clause-clear
returns-clause-clear c = seen_so false

pub returns-clause-occupied : goal.returns-clause-occupied
returns-clause-occupied c = seen_so true
