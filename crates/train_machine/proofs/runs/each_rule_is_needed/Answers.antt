use Rattle.train_machine.proofs.Broken.{set_unclear_broken, set_held_broken, authorised_unclear_broken, authorised_beside_broken, authorised_driven_broken, freed_unseen_broken, cancel_and_run_broken, cancelled_at_once_broken, cancelled_since_broken, cancelled_unclear_broken, moved_held_broken, moved_unclear_broken}
use Rattle.train_machine.proofs.Lawful.{unwithdrawn_broken}
use Rattle.train_machine.proofs.runs.each_rule_is_needed.Goals as goal

pub returns-clause-set_clear : goal.returns-clause-set_clear
returns-clause-set_clear c = set_unclear_broken

pub returns-clause-set_unheld : goal.returns-clause-set_unheld
returns-clause-set_unheld c = set_held_broken

pub returns-clause-authorise_clear : goal.returns-clause-authorise_clear
returns-clause-authorise_clear c = authorised_unclear_broken

pub returns-clause-authorise_side : goal.returns-clause-authorise_side
returns-clause-authorise_side c = authorised_beside_broken

pub returns-clause-authorise_undriven : goal.returns-clause-authorise_undriven
returns-clause-authorise_undriven c = authorised_driven_broken

pub returns-clause-seen : goal.returns-clause-seen
returns-clause-seen c = freed_unseen_broken

pub returns-clause-cancel : goal.returns-clause-cancel
returns-clause-cancel c = cancel_and_run_broken

pub returns-clause-ended : goal.returns-clause-ended
returns-clause-ended c = cancelled_at_once_broken

pub returns-clause-since : goal.returns-clause-since
returns-clause-since c = cancelled_since_broken

pub returns-clause-cancel_clear : goal.returns-clause-cancel_clear
returns-clause-cancel_clear c = cancelled_unclear_broken

pub returns-clause-move_unheld : goal.returns-clause-move_unheld
returns-clause-move_unheld c = moved_held_broken

pub returns-clause-move_clear : goal.returns-clause-move_clear
returns-clause-move_clear c = moved_unclear_broken

pub returns-clause-withdraw : goal.returns-clause-withdraw
returns-clause-withdraw c = unwithdrawn_broken
