use Rattle.std.proofs.Common.{◌∙◌, arith}
use Rattle.std.proofs.lemmas.List.{length-set}
use Rattle.station_panel.proofs.DisturbedCalls.{flag_next}
use Rattle.station_panel.proofs.disturbed.set_flags.Goals as goal

pub loop-place-preserved : goal.loop-place-preserved
loop-place-preserved c =
    let before = c.loop-place.invariant in
    let long = before.1 in
    let inside = c.loop-place-test.true in (
      flag_next c.args.wanted.now c.loop-place.flags _ c.loop-place.place _ c.flag_at.ensures (omega (arith, long, inside)) before.0,
      length-set c.loop-place.flags c.loop-place.place c.flag_at.result ∙ long,
    )
