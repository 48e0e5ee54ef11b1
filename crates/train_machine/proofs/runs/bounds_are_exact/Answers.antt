use Rattle.train_machine.proofs.Broken.{followed_soon_broken, let_in_soon_broken, resumed_soon_broken}
use Rattle.train_machine.proofs.Lawful.{early_may, late_may, later_may, cancelled_may, resumed_may, early_refused, late_refused, later_refused, cancelled_refused, resumed_refused, held_may, hold_may}
use Rattle.train_machine.proofs.runs.bounds_are_exact.Goals as goal

pub returns-clause-early : goal.returns-clause-early
returns-clause-early c = (early_may, early_refused)

pub returns-clause-late : goal.returns-clause-late
returns-clause-late c = (late_may, late_refused)

pub returns-clause-dark : goal.returns-clause-dark
returns-clause-dark c = (later_may, later_refused)

pub returns-clause-held : goal.returns-clause-held
returns-clause-held c = (held_may, cancelled_refused)

pub returns-clause-freed : goal.returns-clause-freed
returns-clause-freed c = cancelled_may

pub returns-clause-hold : goal.returns-clause-hold
returns-clause-hold c = (hold_may, resumed_refused)

pub returns-clause-resumed : goal.returns-clause-resumed
returns-clause-resumed c = resumed_may

pub returns-clause-headway : goal.returns-clause-headway
returns-clause-headway c = followed_soon_broken

pub returns-clause-let_in : goal.returns-clause-let_in
returns-clause-let_in c = let_in_soon_broken

pub returns-clause-stood : goal.returns-clause-stood
returns-clause-stood c = resumed_soon_broken
