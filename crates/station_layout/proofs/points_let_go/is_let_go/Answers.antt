use Rattle.std.proofs.Common.{◌∙◌, ap, refl}
use Rattle.std.specs.FinSet.{contains}
use Rattle.std.specs.List.{list_any}
use Rattle.control_table.specs.layout.declared.ids.SectionId.{SectionId}
use Rattle.station_layout.proofs.LetGo.{let_go_is}
use Rattle.station_layout.proofs.ReasonLaws.{required_is}
use Rattle.station_layout.proofs.points_let_go.is_let_go.Goals as goal

pub returns : goal.returns
returns c =
    let required = required_is c.args.table.now c.args.path.route c.masks-masks.result c.args.point _ _ c.masks-masks.ensures c.contains.ensures c.contains-2.ensures in
    let behind = c.has_one-awaits_behind.ensures ∙ ap (list_any (λ (section : SectionId). contains c.awaited-awaited.result section.0)) c.split_at.ensures.back in
    let_go_is c.args.table.now c.args.path.route c.args.path.sections.now c.args.place c.args.point c.awaited-awaited.result _ _ _ _
    required c.awaited-awaited.ensures c.section_at.result c.section_at.ensures c.contains-awaits_there.ensures behind refl
