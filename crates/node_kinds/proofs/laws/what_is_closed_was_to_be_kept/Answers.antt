use Rattle.node_kinds.proofs.KeptLast.{was_kept}
use Rattle.node_kinds.proofs.laws.what_is_closed_was_to_be_kept.Goals as goal

pub returns-clause-closed : goal.returns-clause-closed
returns-clause-closed c comings standing some = (was_kept c.what_is_listed_is_there_and_closed.ensures comings standing some).0

pub returns-clause-counted : goal.returns-clause-counted
returns-clause-counted c comings standing some = (was_kept c.what_is_listed_is_there_and_closed.ensures comings standing some).1
