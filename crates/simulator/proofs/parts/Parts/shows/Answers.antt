use Rattle.std.proofs.Common.{◌<◌, length, ap, ◌∙◌, arith}
use Rattle.ixl_state.specs.layout.Entries.{Site}
use Rattle.simulator.proofs.Few.{shown_next}
use Rattle.simulator.proofs.parts.Parts.shows.Goals as goal

pub loop-place-preserved : goal.loop-place-preserved
loop-place-preserved c =
    let servers = c.args.self.now.field.signals.items
    in let place = c.loop-place.place
    in let signals = ap length (c.signals-place-end.ensures ∙ ap (λ (p : Site). p.signals) c.layout.ensures.entries)
    in let below : place < length servers = omega (arith, c.loop-place-test.true, signals, c.requires.signals)
    in record {
      long = omega (arith, c.push.ensures.len, c.loop-place.invariant.long);
      made = c.push.ensures.items ∙ shown_next servers c.loop-place.shows.items place c.shown.result below c.shown.ensures c.loop-place.invariant.made;
    }
