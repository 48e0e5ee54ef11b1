use Rattle.std.proofs.Common.{◌≡◌, ◌∙◌, [], List, Option, ap, arith, length}
use Rattle.std.proofs.lemmas.List.{with_items_is}
use Rattle.simulator_spec.specs.sci_telegram.declared.message.Occupancy.{Occupancy}
use Rattle.node_kinds.specs.Openings.{Opening, Opens}
use Rattle.node_kinds.specs.inside.ControllerSteps.{contact_left, noted, opens}
use Rattle.node_kinds.specs.Made.{equipment_of, made_at}
use Rattle.node_kinds.proofs.OpeningLines.{noted_is}
use Rattle.node_kinds.proofs.opening_node.OpeningNodeNodeMachine.step_on.Goals as goal

pub returns : goal.returns
returns c =
    let now = c.args.self.now in
    let told = c.in-Some.contact in
    let opening : Opening = record { site = now.layout.now; equipment = equipment_of now.equipment; position = now.position; sections = now.sections.items } in
    let long : length c.note.new.sections ≡ now.sections.len = omega (arith, c.note.auto.sections, ap length c.deref_mut.ensures.value, now.sections.ok.0) in
    let written = with_items_is now.sections c.note.new.sections long in
    let kept = c.note.ensures ∙ ap (λ sections. noted told (now.position, sections)) c.deref_mut.ensures.value in (
      opens told,
      [],
      ap contact_left c.in-Some.is,
      ap (λ (sections : List (Option Occupancy)). made_at {State = Opening} {Input = Opens} c.args.reading (record opening { position = c.note.new.position; sections = sections })) written
          ∙ ap (λ (state : Opening). made_at {Input = Opens} c.args.reading state) (noted_is told opening c.note.new.position c.note.new.sections kept),
    )
