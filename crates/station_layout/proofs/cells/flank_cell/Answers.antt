use Rattle.std.proofs.Common.{◌∙◌, ◌+◌, ◌++◌, [], ap, drop, string_bytes}
use Rattle.std.proofs.lemmas.List.{drop_more}
use Rattle.std.specs.Prelude.{codes}
use Rattle.station_layout.specs.Names.{parted}
use Rattle.station_layout.specs.Row.{flank_texts}
use Rattle.station_layout.specs.inside.Joined.{joined}
use Rattle.station_layout.proofs.Joined.{added, all_joined, joined_step, nothing_valid, semicolon_valid}
use Rattle.station_layout.proofs.cells.flank_cell.Goals as goal

pub loop-point-init : goal.loop-point-init
loop-point-init c =
    let all = flank_texts c.args.layout.now c.args.flank.now in
    (nothing_valid, ap (λ text. text ++ joined [] (codes "; ") all) c.new-cell.ensures.bytes ∙ all_joined (codes "; ") all)

pub add-requires-text-before : goal.add-requires-text-before
add-requires-text-before c lifetimes = c.loop-point.invariant.0

pub loop-point-preserved : goal.loop-point-preserved
loop-point-preserved c =
    let l = c.args.layout.now in
    let at = c.loop-point.point-index in
    let cell = string_bytes c.loop-point.cell in
    let before = c.loop-point.before.now in
    let left = ap (flank_texts l) (drop_more c.args.flank.now at _ c.loop-point-test.true) in
    let name = c.written.ensures ∙ c.point_name.ensures.text in
    let worded = c.in_ok-add-2.ensures ∙ ap (λ text. text ++ (codes ": " ++ c.word.result.now)) c.in_ok-add.ensures
    ∙ added cell before c.written.result.now (codes ": " ++ c.word.result.now) in
    let grown = worded ∙ (λ i. cell ++ (before ++ (name i ++ (codes ": " ++ c.word.ensures.spelled i)))) in (
      semicolon_valid,
      joined_step (codes "; ") before cell _ (string_bytes c.add-in-loop-point.new.cell) (parted (flank_texts l c.args.flank.now)) _ (flank_texts l (drop (at + 1) c.args.flank.now))
          c.loop-point.invariant.1 left grown,
    )
