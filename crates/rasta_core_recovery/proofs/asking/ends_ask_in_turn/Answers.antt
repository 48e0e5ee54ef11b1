use Rattle.rasta_core_recovery.proofs.Lemmas.Asking.AsksEvents.{asks_after, asks_start, event_asks}
use Rattle.rasta_core_recovery.proofs.asking.ends_ask_in_turn.Goals as goal

pub returns-clause-starts : goal.returns-clause-starts
returns-clause-starts c = asks_start

pub returns-clause-kept : goal.returns-clause-kept
returns-clause-kept c = event_asks c.laws_below.ensures

pub returns-clause-always : goal.returns-clause-always
returns-clause-always c = asks_after c.laws_below.ensures
