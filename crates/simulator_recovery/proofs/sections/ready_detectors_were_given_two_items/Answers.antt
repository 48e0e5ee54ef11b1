use Rattle.simulator_recovery.proofs.Lemmas.Windows.WindowsAlone.{ready_given}
use Rattle.simulator_recovery.proofs.sections.ready_detectors_were_given_two_items.Goals as goal

pub returns : goal.returns
returns c = λ site table world station once reached place inside ready. ready_given c.laws_below.ensures.stations_have_links_run c.stations_stand_by_their_counts.ensures site table station once world reached place inside ready
