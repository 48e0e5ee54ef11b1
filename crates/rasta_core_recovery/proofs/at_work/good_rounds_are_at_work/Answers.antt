use Rattle.rasta_core_recovery.proofs.Lemmas.AtWork.WorkGood.{good_is_at_work, good_is_work_round, good_leaves_open}
use Rattle.rasta_core_recovery.proofs.at_work.good_rounds_are_at_work.Goals as goal

pub returns-clause-work : goal.returns-clause-work
returns-clause-work c = good_is_at_work

pub returns-clause-stays_open : goal.returns-clause-stays_open
returns-clause-stays_open c = good_leaves_open

pub returns-clause-same : goal.returns-clause-same
returns-clause-same c = good_is_work_round
