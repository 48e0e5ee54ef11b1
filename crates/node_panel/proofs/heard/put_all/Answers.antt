use Rattle.std.proofs.Common.{◌∙◌, arith}
use Rattle.node_panel.proofs.Lists.{put_next, set_length}
use Rattle.node_panel.proofs.heard.put_all.Goals as goal

pub loop-place-preserved : goal.loop-place-preserved
loop-place-preserved g c =
    let before = c.loop-place.invariant in
    let long = before.1 in
    let inside = c.loop-place-test.true in
    (put_next c.loop-place.place c.args.value c.loop-place.all c.args.all.now (omega (arith, long, inside)) before.0, set_length c.loop-place.place c.args.value c.loop-place.all ∙ long)
