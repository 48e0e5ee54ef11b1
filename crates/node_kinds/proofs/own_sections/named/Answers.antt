use Rattle.std.proofs.Common.{◌∙◌, ◌<◌, length, get_or, arith}
use Rattle.std.proofs.lemmas.List.{get_or_default}
use Rattle.simulator_spec.specs.layout.declared.ids.SectionId.{SectionId}
use Rattle.simulator_spec.specs.sci_telegram.declared.message.Occupancy.{Occupancy}
use Rattle.simulator_spec.specs.sci_telegram.declared.message.Occupancy.TheVariants.{Clear}
use Rattle.node_kinds.proofs.OwnSectionsTold.{all_named, named_on}
use Rattle.node_kinds.proofs.own_sections.named.Goals as goal

pub loop-place-preserved : goal.loop-place-preserved
loop-place-preserved c =
    let site = c.args.layout.now in
    let own = c.args.own.now in
    let sensed = c.args.sensed.now in
    let place = c.loop-place.place in
    let in_own : place < length own = omega (arith, c.loop-place-test.true, c.min-place-end.ensures) in
    let in_sensed : place < length sensed = omega (arith, c.loop-place-test.true, c.min-place-end.ensures) in
    let section : SectionId = get_or own place (record { 0 = 0 }) in
    let occupancy : Occupancy = get_or sensed place Clear in
    let there : section.0 < length c.sections.result.now = rw c.sections.ensures (c.requires place (record { 0 = 0 }) in_own) in
    named_on site own sensed place section c.sections.result.now c.index-sections-own.result occupancy c.loop-place.named.items c.push.new.self.items in_own in_sensed
    (get_or_default own place (record { 0 = 0 }) section in_own) c.sections.ensures there c.index-sections-own.is (get_or_default sensed place Clear occupancy in_sensed) c.loop-place.invariant c.in_ok-push.ensures.items

pub returns : goal.returns
returns c = c.loop-place.invariant ∙ all_named c.args.layout.now c.args.own.now c.args.sensed.now c.loop-place.place (omega (arith, c.loop-place-test.false, c.min-place-end.ensures))
