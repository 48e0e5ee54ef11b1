use Rattle.std.proofs.Common.{sym, ap, ◌∙◌, ◌<◌, length, arith}
use Rattle.simulator_spec.specs.layout.Entries.{Site}
use Rattle.simulator_field.specs.Field.{world_of}
use Rattle.simulator_field.proofs.Changes.{entry_there, point_restarted}
use Rattle.simulator_field.proofs.field.Field.restart_point.Goals as goal

pub returns-clause-world : goal.returns-clause-world
unfolding world_of
returns-clause-world c = λ station frozen.
    let there = entry_there c.points.result.now c.args.table.now.points c.args.place c.index-points-place.result (c.points.ensures ∙ ap (λ (p : Site). p.points) c.layout.ensures.entries) c.requires.there c.index-points-place.is
    in let below : c.args.place < length c.args.self.now.points.items = omega (arith, c.requires.of.points, c.requires.there)
    in let within : c.args.place < length c.args.self.now.positions.items = omega (arith, c.requires.of.positions, c.requires.there)
    in point_restarted c.args.table.now (record { clock = c.args.clock; first = c.args.first_sequence_number }) c.args.place c.len-moment.result c.index-position.result.now c.index-points-place.result (world_of station frozen c.args.self.now)
    c.in_ok-hosted.hosted.host c.index_mut.result.now c.restart.new.self there within c.index-position.ensures c.in_ok-hosted.ensures.host c.len-moment.ensures.count c.restart.ensures below c.index_mut.ensures.value
