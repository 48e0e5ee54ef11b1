use Rattle.rasta_core.proofs.OutsideEntries.{does_nothing}
use Rattle.rasta_core.proofs.Outside.{enters_from_outside, stays_outside}
use Rattle.rasta_core.proofs.one_link.outside_until_it_enters.Goals as goal

pub returns-clause-stays : goal.returns-clause-stays
returns-clause-stays c = stays_outside (record { entering = c.connection_begins.ensures.entering; hearing = c.connection_begins.ensures.hearing })

pub returns-clause-server : goal.returns-clause-server
returns-clause-server c = enters_from_outside

pub returns-clause-nothing : goal.returns-clause-nothing
returns-clause-nothing c = does_nothing (record { entering = c.connection_begins.ensures.entering; hearing = c.connection_begins.ensures.hearing })
