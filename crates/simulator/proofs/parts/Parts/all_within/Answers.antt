use Rattle.std.proofs.Common.{◌≡◌, false, drop, length, slice_index_or, sym, ap, ◌∙◌, arith, rules}
use Rattle.simulator_field.specs.Field.{world_of}
use Rattle.simulator.specs.inside.Parts.{seen}
use Rattle.simulator.proofs.Within.{all_so, fails_told, first_then, last_told, second_fails, third_fails}
use Rattle.simulator.proofs.parts.Parts.all_within.Goals as goal
use Rattle.simulator.proofs.parts.Parts.all_within.Goals.{else-signals, else-station, then-signals, then-station}

pub returns-then-points : goal.returns-then-points
unfolding world_of
returns-then-points c =
    let station = c.is_within-station.result
    in let signals = c.are_within-signals.result
    in let points = c.are_within-points.result
    in let detectors = c.are_within-detectors.result
    in let some = first_then c.args.steps.now c.split_at.result.0.now c.split_at.result.1.now (omega (arith, c.requires.each)) c.split_at.ensures.front c.split_at.ensures.back
    in all_so (seen c.args.self.now) c.args.steps.now c.split_at.result.1.now c.split_at-2.result.1.now c.split_at-3.result.1.now (slice_index_or c.split_at.result.0.now 0 0) station signals points detectors _
    some (c.split_at-2.ensures.back ∙ ap (λ n. drop n c.split_at.result.1.now) (c.len.ensures ∙ sym c.deref.ensures.len ∙ ap length c.deref.ensures.value)) (c.split_at-3.ensures.back ∙ ap (λ n. drop n c.split_at-2.result.1.now) (c.len-2.ensures ∙ sym c.deref-2.ensures.len ∙ ap length c.deref-2.ensures.value))
    (omega (arith, c.requires.each, ap length some, c.requires.whole.signals, c.requires.whole.points, c.requires.whole.detectors))
    (search rules) (search rules) (search rules) (search rules) (last_told station signals points detectors c.if-points.true)

pub returns-else-points : goal.returns-else-points
unfolding world_of
returns-else-points c =
    let station = c.is_within-station.result
    in let signals = c.are_within-signals.result
    in let points = c.are_within-points.result
    in let detectors = c.are_within-detectors.result
    in let found : _ ≡ false = elim c.if-signals.branch [
      | then-signals w ↦ w.t-31-is ∙ third_fails station signals points c.if-points.either w.if-signals.true
      | else-signals w ↦ w.t-31-is ∙ elim c.if-station.branch [
        | then-station s ↦ s.t-32-is ∙ second_fails station signals w.if-signals.either s.if-station.true
        | else-station s ↦ s.t-32-is ∙ s.if-station.false
      ]
    ]
    in let some = first_then c.args.steps.now c.split_at.result.0.now c.split_at.result.1.now (omega (arith, c.requires.each)) c.split_at.ensures.front c.split_at.ensures.back
    in all_so (seen c.args.self.now) c.args.steps.now c.split_at.result.1.now c.split_at-2.result.1.now c.split_at-3.result.1.now (slice_index_or c.split_at.result.0.now 0 0) station signals points detectors _
    some (c.split_at-2.ensures.back ∙ ap (λ n. drop n c.split_at.result.1.now) (c.len.ensures ∙ sym c.deref.ensures.len ∙ ap length c.deref.ensures.value)) (c.split_at-3.ensures.back ∙ ap (λ n. drop n c.split_at-2.result.1.now) (c.len-2.ensures ∙ sym c.deref-2.ensures.len ∙ ap length c.deref-2.ensures.value))
    (omega (arith, c.requires.each, ap length some, c.requires.whole.signals, c.requires.whole.points, c.requires.whole.detectors))
    (search rules) (search rules) (search rules) (search rules) (found ∙ fails_told station signals points detectors c.if-points.either)
