use Rattle.std.proofs.Common.{◌∙◌, sym}
use Rattle.station_layout.specs.inside.WrittenPoints.{wrong_at}
use Rattle.station_layout.proofs.Found.{found_here, goes_on, nowhere}
use Rattle.station_layout.proofs.side_detail.first_wrong.Goals as goal

pub returns-in-Some : goal.returns-in-Some
returns-in-Some c =
    found_here (wrong_at c.args.layout.now c.args.start c.args.path.now c.args.under) c.args.points.now c.loop-written.written-index _ _ c.in-Some.found c.loop-written-test.true (sym c.wrong_at.ensures ∙ c.in-Some.is) c.loop-written.invariant

pub loop-written-preserved : goal.loop-written-preserved
loop-written-preserved c =
    goes_on (wrong_at c.args.layout.now c.args.start c.args.path.now c.args.under) c.args.points.now c.loop-written.written-index _ _ c.loop-written-test.true (sym c.wrong_at.ensures ∙ c.in_default.is) c.loop-written.invariant

pub returns : goal.returns
returns c = nowhere (wrong_at c.args.layout.now c.args.start c.args.path.now c.args.under) c.args.points.now c.loop-written.written-index _ c.loop-written-test.false c.loop-written.invariant
