use Rattle.simulator_recovery.proofs.Lemmas.Sections.SectionsWindow.{owed_wait}
use Rattle.simulator_recovery.proofs.sections.owed_reports_wait_for_the_window.Goals as goal

pub returns : goal.returns
returns c = λ site table world station once reached place controller e up completed at section f owing. owed_wait site station c.laws_below.ensures.detector_step_is_told_to_the_object once c.laws_below.ensures.stations_have_links_run table world reached place controller e up completed at section f owing
