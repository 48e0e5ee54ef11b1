use Rattle.simulator_recovery.proofs.Lemmas.Sections.SectionsOver.{comes_over}
use Rattle.simulator_recovery.proofs.sections.told_sections_come_over.Goals as goal

pub returns : goal.returns
returns c = λ site table old events section station once is_table reached can leaves owes reporter reported handed ready. comes_over c.laws_below.ensures site table station once is_table old events section reached can leaves owes reporter reported handed ready
