use Rattle.std.proofs.Common.{◌∙◌, sym}
use Rattle.station_layout.specs.Repeats.{twice_at}
use Rattle.station_layout.proofs.Found.{found_here, goes_on, nowhere}
use Rattle.station_layout.proofs.repeats.first_twice.Goals as goal

pub returns-in-Some : goal.returns-in-Some
returns-in-Some c =
    found_here (twice_at c.args.layout.now c.args.path.now) c.args.path.now c.loop-left.left-index _ _ c.in-Some.found c.loop-left-test.true (sym c.twice_at.ensures ∙ c.in-Some.is) c.loop-left.invariant

pub loop-left-preserved : goal.loop-left-preserved
loop-left-preserved c =
    goes_on (twice_at c.args.layout.now c.args.path.now) c.args.path.now c.loop-left.left-index _ _ c.loop-left-test.true (sym c.twice_at.ensures ∙ c.in_default.is) c.loop-left.invariant

pub returns : goal.returns
returns c = nowhere (twice_at c.args.layout.now c.args.path.now) c.args.path.now c.loop-left.left-index _ c.loop-left-test.false c.loop-left.invariant
