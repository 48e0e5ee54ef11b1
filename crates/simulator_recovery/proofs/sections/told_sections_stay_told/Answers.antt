use Rattle.simulator_recovery.proofs.Lemmas.Sections.SectionsStay.{stays_paid}
use Rattle.simulator_recovery.proofs.sections.told_sections_stay_told.Goals as goal

pub returns : goal.returns
returns c = λ site table old events section station once is_table reached can leaves reporter reported up owes. stays_paid c.laws_below.ensures site table station once is_table old events section reached can leaves reporter reported up owes
