use Rattle.rasta_core_recovery.proofs.Lemmas.Falling.FallsEvents.{event_rises, starts_rising}
use Rattle.rasta_core_recovery.proofs.Lemmas.Rounds.Holds.{holds_after}
use Rattle.rasta_core_recovery.proofs.falling.nothing_falls.Goals as goal

pub returns-clause-starts : goal.returns-clause-starts
returns-clause-starts c = starts_rising

pub returns-clause-kept : goal.returns-clause-kept
returns-clause-kept c = event_rises c.laws_below.ensures

pub returns-clause-always : goal.returns-clause-always
returns-clause-always c = λ names start events are may. (holds_after c.laws_below.ensures names start events are may).rising
