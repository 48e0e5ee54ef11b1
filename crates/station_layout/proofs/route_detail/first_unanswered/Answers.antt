use Rattle.std.proofs.Common.{◌∙◌, sym}
use Rattle.station_layout.specs.RouteDetails.{unanswered}
use Rattle.station_layout.proofs.Found.{found_here, goes_on, nowhere}
use Rattle.station_layout.proofs.route_detail.first_unanswered.Goals as goal

pub returns-in-Some : goal.returns-in-Some
returns-in-Some c =
    found_here (unanswered c.args.layout.now c.args.route) c.args.extra.now c.loop-other.other-index _ _ c.in-Some.found c.loop-other-test.true (sym c.unanswered.ensures ∙ c.in-Some.is) c.loop-other.invariant

pub loop-other-preserved : goal.loop-other-preserved
loop-other-preserved c =
    goes_on (unanswered c.args.layout.now c.args.route) c.args.extra.now c.loop-other.other-index _ _ c.loop-other-test.true (sym c.unanswered.ensures ∙ c.in_default.is) c.loop-other.invariant

pub returns : goal.returns
returns c = nowhere (unanswered c.args.layout.now c.args.route) c.args.extra.now c.loop-other.other-index _ c.loop-other-test.false c.loop-other.invariant
