use Rattle.std.proofs.Common.{sym, ◌∙◌}
use Rattle.control_table.specs.inside.TableTests.{all_different}
use Rattle.control_table.proofs.Loops.{different-goes_on, different-ends, different-is_done}
use Rattle.control_table.proofs.sections.all_different.Goals as goal

pub returns-then-contains : goal.returns-then-contains
returns-then-contains g c =
    different-ends g.T.PartialEq.eq c.loop-item.rest.now c.in-Some.others.now c.in-Some.item.now (all_different g.T.PartialEq.eq c.args.items.now) c.in-Some.ensures.cases.0 (sym c.contains.ensures.value ∙ c.if-contains.true) c.loop-item.invariant

pub loop-item-preserved : goal.loop-item-preserved
loop-item-preserved g c =
    different-goes_on g.T.PartialEq.eq c.loop-item.rest.now c.in-Some.others.now c.in-Some.item.now (all_different g.T.PartialEq.eq c.args.items.now) c.in-Some.ensures.cases.0 (sym c.contains.ensures.value ∙ c.if-contains.false) c.loop-item.invariant

pub returns : goal.returns
returns g c =
    different-is_done g.T.PartialEq.eq c.loop-item.rest.now (all_different g.T.PartialEq.eq c.args.items.now) c.in_default.ensures.cases c.loop-item.invariant
