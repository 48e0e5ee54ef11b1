use Rattle.rasta_core.proofs.Early.{early_plays}
use Rattle.rasta_core.proofs.EarlyCalls.{early_settled, early_entering, early_ticking, early_closing, early_sending, early_accepts, early_unreadable, early_stranger}
use Rattle.rasta_core.proofs.OrderOutside.{opening_not_early}
use Rattle.rasta_core.proofs.connection_order.client_alone.Goals as goal

pub returns-clause-plays : goal.returns-clause-plays
returns-clause-plays c = early_plays

pub returns-clause-settling : goal.returns-clause-settling
returns-clause-settling c = early_settled

pub returns-clause-entering : goal.returns-clause-entering
returns-clause-entering c = early_entering

pub returns-clause-ticking : goal.returns-clause-ticking
returns-clause-ticking c = early_ticking

pub returns-clause-closing : goal.returns-clause-closing
returns-clause-closing c = early_closing

pub returns-clause-sending : goal.returns-clause-sending
returns-clause-sending c = early_sending

pub returns-clause-accepting : goal.returns-clause-accepting
returns-clause-accepting c = early_accepts

pub returns-clause-opening : goal.returns-clause-opening
returns-clause-opening c = opening_not_early

pub returns-clause-unreadable : goal.returns-clause-unreadable
returns-clause-unreadable c = early_unreadable

pub returns-clause-strangers : goal.returns-clause-strangers
returns-clause-strangers c = early_stranger
