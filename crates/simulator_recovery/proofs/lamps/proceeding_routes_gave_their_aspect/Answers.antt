use Rattle.simulator_recovery.proofs.Words.Basics.{ap}
use Rattle.simulator_recovery.proofs.Words.Interlockings.{is_proceeding}
use Rattle.simulator_recovery.proofs.Lemmas.Lamps.ProceedsRounds.{gave_its_aspect}
use Rattle.simulator_recovery.proofs.lamps.proceeding_routes_gave_their_aspect.Goals as goal

pub returns : goal.returns
returns c = λ site table world number row known once station is_table reached proceeds. gave_its_aspect c.laws_below.ensures site table world number row proceeds.0 known once station is_table reached (record { row_there = proceeds.1.0; there = proceeds.1.1 }) (ap is_proceeding proceeds.2)
