use Rattle.std.proofs.Common.{◌++◌, arith}
use Rattle.station_panel.specs.Asked.{cancels}
use Rattle.station_panel.proofs.Cancels.{all_added, one_added}
use Rattle.station_panel.proofs.asked.add_cancels.Goals as goal

pub loop-place-preserved : goal.loop-place-preserved
loop-place-preserved c =
    one_added c.loop-place.place c.args.routes c.loop-place.events.items c.push.new.self.items (c.args.events.now.items ++ cancels 0 c.args.routes)
    c.loop-place-test.true c.in_ok-push.ensures.items c.loop-place.invariant

pub returns : goal.returns
returns c =
    let above = c.loop-place-test.false in
    all_added c.loop-place.place c.args.routes c.loop-place.events.items (c.args.events.now.items ++ cancels 0 c.args.routes) (omega (arith, above)) c.loop-place.invariant
