use Rattle.std.proofs.Common.{rules}
use Rattle.std.proofs.lemmas.Iterator.{YieldsList-from_slice, cases_from_all}
use borrow.Author.Tests.{tests}
use Rattle.panel_desk.specs.Inside.{LetsBy}
use Rattle.panel_desk.specs.declared.standing_orders.Waiting.{Waiting}
use Rattle.panel_desk.proofs.InTheWay.{all_are}
use Rattle.panel_desk.proofs.standing_orders.is_let_by.Goals as goal

pub returns : goal.returns
returns c =
    let lets = λ (other : Waiting). LetsBy c.args.table.now c.args.lines.now other.route c.args.route in
    all_are lets c.args.earlier.now c.all.result
    (cases_from_all _ _ _ lets (λ (other : Waiting). lets other → ⊥) c.all.ensures.ran (YieldsList-from_slice c.args.earlier.now cc) (λ x q k. search (rules, tests)) (λ x q k. search (rules, tests)))
