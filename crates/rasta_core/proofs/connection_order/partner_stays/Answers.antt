use Rattle.rasta_core.proofs.Enters.{partner_plays}
use Rattle.rasta_core.proofs.Safety.{swapped, anew}
use Rattle.rasta_core.proofs.connection_order.partner_stays.Goals as goal

pub returns-clause-order : goal.returns-clause-order
returns-clause-order c = swapped

pub returns-clause-plays : goal.returns-clause-plays
returns-clause-plays c = partner_plays

pub returns-clause-anew : goal.returns-clause-anew
returns-clause-anew c = anew
