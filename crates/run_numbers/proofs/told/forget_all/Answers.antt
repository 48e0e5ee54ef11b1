use Rattle.std.proofs.Common.{◌∙◌, None, arith}
use Rattle.run_numbers.proofs.Forgotten.{put_next, set_length}
use Rattle.run_numbers.proofs.told.forget_all.Goals as goal

pub loop-place-preserved : goal.loop-place-preserved
loop-place-preserved c =
    let before = c.loop-place.invariant in
    let long = before.1 in
    let inside = c.loop-place-test.true in
    (put_next c.loop-place.place None c.loop-place.values c.args.values.now (omega (arith, long, inside)) before.0, set_length c.loop-place.place None c.loop-place.values ∙ long)
