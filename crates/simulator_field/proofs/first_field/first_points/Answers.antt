use Rattle.std.proofs.Common.{ap, ◌∙◌, arith, rules, length}
use Rattle.simulator_spec.specs.layout.Entries.{Site}
use Rattle.simulator_spec.specs.First.{first_controller}
use Rattle.simulator_field.proofs.First.{all_points_made, next_point}
use Rattle.simulator_field.proofs.first_field.first_points.Goals as goal

pub loop-place-preserved : goal.loop-place-preserved
loop-place-preserved c =
    next_point c.args.table.now c.points-entries.result.now c.args.positions.now c.loop-place.place c.index-entries-place.result _ _ _ c.new.result
    (c.points-entries.ensures ∙ ap (λ (p : Site). p.points) c.layout.ensures.entries) c.requires c.loop-place-test.true c.index-entries-place.is (search rules) c.loop-place.invariant
    (c.new.ensures ∙ ap first_controller c.in_ok-hosted.ensures.host) c.in_ok-push.ensures.items

pub returns : goal.returns
returns c =
    let entries = ap length (c.points-entries.ensures ∙ ap (λ (p : Site). p.points) c.layout.ensures.entries)
    in c.loop-place.invariant ∙ all_points_made c.args.table.now c.args.positions.now c.loop-place.place c.requires (omega (arith, c.loop-place-test.false, entries))
