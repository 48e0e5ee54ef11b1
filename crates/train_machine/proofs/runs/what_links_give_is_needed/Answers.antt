use Rattle.train_machine.proofs.Broken.{lamp_starved_broken, detector_starved_broken, told_out_of_order_broken, told_falsely_broken, change_untold_broken}
use Rattle.train_machine.proofs.runs.what_links_give_is_needed.Goals as goal

pub returns-clause-dark : goal.returns-clause-dark
returns-clause-dark c = lamp_starved_broken

pub returns-clause-fresh : goal.returns-clause-fresh
returns-clause-fresh c = detector_starved_broken

pub returns-clause-order : goal.returns-clause-order
returns-clause-order c = told_out_of_order_broken

pub returns-clause-truth : goal.returns-clause-truth
returns-clause-truth c = told_falsely_broken

pub returns-clause-change : goal.returns-clause-change
returns-clause-change c = change_untold_broken
