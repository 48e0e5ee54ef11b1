use Rattle.closings.proofs.Rows.{closed_named, opened_named}
use Rattle.closings.proofs.laws.a_command_changes_what_it_names_alone.Goals as goal

pub returns-clause-closed : goal.returns-clause-closed
returns-clause-closed c = closed_named

pub returns-clause-opened : goal.returns-clause-opened
returns-clause-opened c = opened_named
