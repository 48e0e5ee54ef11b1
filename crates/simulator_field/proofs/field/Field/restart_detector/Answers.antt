use Rattle.std.proofs.Common.{sym, ap, ◌∙◌, ◌<◌, length, arith}
use Rattle.simulator_spec.specs.layout.Entries.{Site}
use Rattle.simulator_field.specs.Field.{world_of}
use Rattle.simulator_field.proofs.Changes.{entry_there, detector_restarted}
use Rattle.simulator_field.proofs.field.Field.restart_detector.Goals as goal

pub returns-clause-world : goal.returns-clause-world
unfolding world_of
returns-clause-world c = λ station frozen.
    let there = entry_there c.detectors.result.now c.args.table.now.detectors c.args.place c.index-detectors-place.result (c.detectors.ensures ∙ ap (λ (p : Site). p.detectors) c.layout.ensures.entries) c.requires.there c.index-detectors-place.is
    in let below : c.args.place < length c.args.self.now.detectors.items = omega (arith, c.requires.of.detectors, c.requires.there)
    in detector_restarted c.args.table.now (record { clock = c.args.clock; first = c.args.first_sequence_number }) c.args.place c.len-moment.result c.as_slice-occupied.result.now c.index-detectors-place.result (world_of station frozen c.args.self.now)
    c.in_ok-hosted.hosted.host c.index_mut.result.now c.restart.new.self there c.as_slice-occupied.ensures.value c.in_ok-hosted.ensures.host c.len-moment.ensures.count c.restart.ensures below c.index_mut.ensures.value
