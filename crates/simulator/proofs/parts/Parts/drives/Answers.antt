use Rattle.std.proofs.Common.{◌<◌, length, ap, ◌∙◌, arith}
use Rattle.ixl_state.specs.layout.Entries.{Site}
use Rattle.simulator.proofs.Few.{driven_next}
use Rattle.simulator.proofs.parts.Parts.drives.Goals as goal

pub loop-place-preserved : goal.loop-place-preserved
loop-place-preserved c =
    let servers = c.args.self.now.field.points.items
    in let place = c.loop-place.place
    in let points = ap length (c.points-place-end.ensures ∙ ap (λ (p : Site). p.points) c.layout.ensures.entries)
    in let below : place < length servers = omega (arith, c.loop-place-test.true, points, c.requires.points)
    in record {
      long = omega (arith, c.push.ensures.len, c.loop-place.invariant.long);
      made = c.push.ensures.items ∙ driven_next servers c.loop-place.drives.items place c.driven.result below c.driven.ensures c.loop-place.invariant.made;
    }
