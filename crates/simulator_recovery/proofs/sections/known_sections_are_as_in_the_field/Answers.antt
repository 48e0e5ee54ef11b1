use Rattle.simulator_recovery.proofs.Lemmas.Sections.SectionsSensed.{known_in_field}
use Rattle.simulator_recovery.proofs.sections.known_sections_are_as_in_the_field.Goals as goal

pub returns : goal.returns
returns c = λ site table world section station is_table reached known. known_in_field c.laws_below.ensures.detector_step_is_told_to_the_object site table station is_table world reached section known
