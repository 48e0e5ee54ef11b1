use Rattle.std.proofs.Common.{◌∙◌, sym}
use Rattle.station_layout.specs.RouteDetails.{in_the_way}
use Rattle.station_layout.proofs.Found.{found_here, goes_on, nowhere}
use Rattle.station_layout.proofs.route_detail.first_in_the_way.Goals as goal

pub returns-in-Some : goal.returns-in-Some
returns-in-Some c =
    found_here (in_the_way c.args.layout.now c.args.exit) c.args.path.now c.loop-left.left-index _ _ c.in-Some.found c.loop-left-test.true (sym c.in_the_way.ensures ∙ c.in-Some.is) c.loop-left.invariant

pub loop-left-preserved : goal.loop-left-preserved
loop-left-preserved c =
    goes_on (in_the_way c.args.layout.now c.args.exit) c.args.path.now c.loop-left.left-index _ _ c.loop-left-test.true (sym c.in_the_way.ensures ∙ c.in_default.is) c.loop-left.invariant

pub returns : goal.returns
returns c = nowhere (in_the_way c.args.layout.now c.args.exit) c.args.path.now c.loop-left.left-index _ c.loop-left-test.false c.loop-left.invariant
