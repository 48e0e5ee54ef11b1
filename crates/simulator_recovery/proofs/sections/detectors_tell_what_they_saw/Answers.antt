use Rattle.simulator_recovery.proofs.Lemmas.Sections.SectionsAlways.{have_reported}
use Rattle.simulator_recovery.proofs.sections.detectors_tell_what_they_saw.Goals as goal

pub returns : goal.returns
returns c = λ site table world station once is_table reached. have_reported c.laws_below.ensures site table station once is_table world reached
