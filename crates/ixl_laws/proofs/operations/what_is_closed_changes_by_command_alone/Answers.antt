use Rattle.ixl_laws.proofs.KeptBehind.{closed_step, first_closed}
use Rattle.ixl_laws.proofs.operations.what_is_closed_changes_by_command_alone.Goals as goal

pub returns-clause-first : goal.returns-clause-first
returns-clause-first c = first_closed

pub returns-clause-kept : goal.returns-clause-kept
returns-clause-kept c = closed_step
