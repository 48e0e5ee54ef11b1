use Rattle.std.proofs.Common.{◌≡◌, ◌+◌, length, ap, slice_index_or, arith}
use Rattle.simulator_field.specs.Field.{world_of}
use Rattle.simulator.specs.inside.Parts.{site_of, seen}
use Rattle.simulator.proofs.Within.{each_within, first_then, may_go_on}
use Rattle.simulator.proofs.parts.Parts.pass.Goals as goal

pub split_at-requires : goal.split_at-requires
split_at-requires c =
    let self = c.args.self.now
    in let goes = may_go_on (site_of self) c.args.elapsed c.args.steps.now (seen self) c.requires.allowed
    in omega (arith, goes.each)

pub pass-requires : goal.pass-requires
unfolding world_of
pass-requires c =
    let self = c.args.self.now
    in let goes = may_go_on (site_of self) c.args.elapsed c.args.steps.now (seen self) c.requires.allowed
    in let first = slice_index_or c.split_at.result.0.now 0 0
    in let steps_are = first_then c.args.steps.now c.split_at.result.0.now c.split_at.result.1.now (omega (arith, goes.each)) c.split_at.ensures.front c.split_at.ensures.back
    in let within = each_within (seen self) c.args.steps.now c.split_at.result.1.now first steps_are
    (omega (arith, goes.each, ap length steps_are, c.requires.whole.signals, c.requires.whole.points, c.requires.whole.detectors)) goes.clocks
    in omega (arith, within.station)

pub pass-requires-2 : goal.pass-requires-2
unfolding world_of
pass-requires-2 c =
    let self = c.args.self.now
    in let goes = may_go_on (site_of self) c.args.elapsed c.args.steps.now (seen self) c.requires.allowed
    in let first = slice_index_or c.split_at.result.0.now 0 0
    in let steps_are = first_then c.args.steps.now c.split_at.result.0.now c.split_at.result.1.now (omega (arith, goes.each)) c.split_at.ensures.front c.split_at.ensures.back
    in let each : length self.field.signals.items + length self.field.points.items + length self.field.detectors.items ≡ length c.split_at.result.1.now =
    omega (arith, goes.each, ap length steps_are, c.requires.whole.signals, c.requires.whole.points, c.requires.whole.detectors)
    in let within = each_within (seen self) c.args.steps.now c.split_at.result.1.now first steps_are each goes.clocks
    in record { count = each; time = goes.time; signals = within.signals; points = within.points; detectors = within.detectors }
