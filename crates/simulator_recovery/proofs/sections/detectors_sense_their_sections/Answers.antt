use Rattle.simulator_recovery.proofs.Lemmas.Sections.SectionsSensed.{senses_as_they_are}
use Rattle.simulator_recovery.proofs.sections.detectors_sense_their_sections.Goals as goal

pub returns : goal.returns
returns c = λ site table world station is_table reached. senses_as_they_are c.laws_below.ensures.detector_step_is_told_to_the_object site table station is_table world reached
