use Rattle.std.proofs.Common.{◌∙◌, false, arith}
use Rattle.panel_desk.proofs.FlagRows.{put_next, put_whole}
use Rattle.panel_desk.proofs.TriesEach.{set_long}
use Rattle.panel_desk.proofs.flags.clear_flags.Goals as goal

pub loop-place-preserved : goal.loop-place-preserved
loop-place-preserved c =
    let before = c.loop-place.invariant in
    let long = before.1 in
    let inside = c.loop-place-test.true in
    (put_next c.loop-place.place false c.loop-place.flags c.args.flags.now (omega (arith, long, inside)) before.0, set_long c.loop-place.place false c.loop-place.flags ∙ long)

pub returns : goal.returns
returns c =
    let before = c.loop-place.invariant in
    let long = before.1 in
    let past = c.loop-place-test.false in
    before.0 ∙ put_whole c.loop-place.place false c.args.flags.now (omega (arith, long, past)) (omega (arith, long, past))
