use Rattle.std.proofs.Common.{arith, rules}
use Rattle.tds_ctl.proofs.Places.{first_settled}
use Rattle.tds_ctl.proofs.sections.settle_first.Goals as goal

pub returns-then-owes : goal.returns-then-owes
returns-then-owes c =
    let paid = first_settled c.loop-section.sections c.loop-section.section-index c.section-item.result (omega arith) c.section-item.is (search rules)
    in cc
