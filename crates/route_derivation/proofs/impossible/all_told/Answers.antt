use Rattle.std.proofs.Common.{◌∙◌, ap}
use Rattle.route_derivation.specs.inside.HindranceSearch.{all_told, with_told}
use Rattle.route_derivation.proofs.ImpossibleLaws.{told_more}
use Rattle.route_derivation.proofs.impossible.all_told.Goals as goal

pub loop-way-init : goal.loop-way-init
unfolding all_told
loop-way-init c = c.new-told.ensures.items

pub loop-way-preserved : goal.loop-way-preserved
loop-way-preserved c =
    told_more c.args.layout.now c.args.ways.now c.loop-way.way-index c.loop-way.told.items c.add_told.new.told.items c.way-item.result c.loop-way-test.true c.way-item.is c.loop-way.invariant
    (c.in_ok-add_told.ensures ∙ ap (with_told c.loop-way.told.items) c.in_ok-told_of.ensures)
