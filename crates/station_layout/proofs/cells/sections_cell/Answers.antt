use Rattle.std.proofs.Common.{◌∙◌, ◌+◌, ◌++◌, [], ap, drop, string_bytes}
use Rattle.std.proofs.lemmas.List.{drop_more}
use Rattle.std.specs.Prelude.{codes}
use Rattle.station_layout.specs.Names.{spaced}
use Rattle.station_layout.specs.Row.{section_names}
use Rattle.station_layout.specs.inside.Joined.{joined}
use Rattle.station_layout.proofs.Joined.{all_joined, joined_step, nothing_valid, space_valid}
use Rattle.station_layout.proofs.cells.sections_cell.Goals as goal

pub loop-section-init : goal.loop-section-init
loop-section-init c =
    let all = section_names c.args.layout.now c.args.sections.now in
    (nothing_valid, ap (λ text. text ++ joined [] (codes " ") all) c.new-cell.ensures.bytes ∙ all_joined (codes " ") all)

pub add-requires-text-before : goal.add-requires-text-before
add-requires-text-before c lifetimes = c.loop-section.invariant.0

pub loop-section-preserved : goal.loop-section-preserved
loop-section-preserved c =
    let l = c.args.layout.now in
    let at = c.loop-section.section-index in
    let left = ap (section_names l) (drop_more c.args.sections.now at _ c.loop-section-test.true) in
    let name = c.written.ensures ∙ c.section_name.ensures in
    let grown = c.in_ok-add.ensures ∙ ap (λ n. string_bytes c.loop-section.cell ++ (c.loop-section.before.now ++ n)) name in (
      space_valid,
      joined_step (codes " ") c.loop-section.before.now (string_bytes c.loop-section.cell) _ (string_bytes c.add.new.cell) (spaced (section_names l c.args.sections.now)) _
          (section_names l (drop (at + 1) c.args.sections.now)) c.loop-section.invariant.1 left grown,
    )
