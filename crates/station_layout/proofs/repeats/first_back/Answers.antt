use Rattle.std.proofs.Common.{◌∙◌, sym}
use Rattle.station_layout.specs.Repeats.{back_at}
use Rattle.station_layout.proofs.Found.{found_here, goes_on, nowhere}
use Rattle.station_layout.proofs.repeats.first_back.Goals as goal

pub returns-in-Some : goal.returns-in-Some
returns-in-Some c =
    found_here (back_at c.args.layout.now c.args.path.now) c.args.path.now c.loop-left.left-index _ _ c.in-Some.found c.loop-left-test.true (sym c.back_at.ensures ∙ c.in-Some.is) c.loop-left.invariant

pub loop-left-preserved : goal.loop-left-preserved
loop-left-preserved c =
    goes_on (back_at c.args.layout.now c.args.path.now) c.args.path.now c.loop-left.left-index _ _ c.loop-left-test.true (sym c.back_at.ensures ∙ c.in_default.is) c.loop-left.invariant

pub returns : goal.returns
returns c = nowhere (back_at c.args.layout.now c.args.path.now) c.args.path.now c.loop-left.left-index _ c.loop-left-test.false c.loop-left.invariant
