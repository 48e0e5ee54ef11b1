use Rattle.rasta_core.proofs.LinkOffsets.{later_given, later_newest, later_unused}
use Rattle.rasta_core.proofs.true_clocks.time_changes_no_connection.Goals as goal

pub returns-clause-newest : goal.returns-clause-newest
returns-clause-newest c = later_newest

pub returns-clause-given : goal.returns-clause-given
returns-clause-given c = later_given

pub returns-clause-unused : goal.returns-clause-unused
returns-clause-unused c = later_unused
