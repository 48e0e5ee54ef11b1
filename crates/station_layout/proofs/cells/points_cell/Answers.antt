use Rattle.std.proofs.Common.{◌≡◌, ◌∙◌, ◌∷◌, ◌+◌, ◌++◌, [], ap, drop, string_bytes, subst, sym}
use Rattle.std.specs.Prelude.{codes}
use Rattle.station_layout.specs.Names.{point_name, spaced}
use Rattle.station_layout.specs.Row.{is_written, names_of_points, point_of, points_at, points_on}
use Rattle.station_layout.specs.inside.Joined.{joined}
use Rattle.station_layout.proofs.Joined.{all_joined, joined_on, joined_step, nothing_valid, space_valid}
use Rattle.station_layout.proofs.PointsOnPath.{found, no_point, not_found, other_element}
use Rattle.station_layout.proofs.cells.points_cell.Goals as goal
use Rattle.station_layout.proofs.cells.points_cell.Goals.{in-Point+then-is_written+in_ok-add, in-Point+else-is_written, in_default}

pub loop-port-init : goal.loop-port-init
loop-port-init c =
    let all = names_of_points c.args.layout.now (points_at c.args.route.now c.args.side) in
    (nothing_valid, ap (λ text. text ++ joined [] (codes " ") all) c.new-cell.ensures.bytes ∙ all_joined (codes " ") all)

pub add-requires-text-before : goal.add-requires-text-before
add-requires-text-before c lifetimes = c.loop-port.invariant.0

pub loop-port-preserved : goal.loop-port-preserved
loop-port-preserved c =
    let l = c.args.layout.now in
    let points = c.args.route.now.points in
    let side = c.args.side in
    let path = c.path-port-items.result.now in
    let at = c.loop-port.port-index in
    let cell = string_bytes c.loop-port.cell in
    let before = c.loop-port.before.now in
    let all = spaced (names_of_points l (points_at c.args.route.now side)) in
    let rest = names_of_points l (points_on (drop (at + 1) c.args.route.now.path) points side) in
    elim c.match-port.branch [
      | in-Point+then-is_written+in_ok-add w ↦
          let p = w.in-Point.point in
          let written = ap (λ ps. is_written ps side p) (sym w.points.ensures) ∙ sym w.is_written.ensures ∙ w.if-is_written.true in
          let left = subst (λ ports. points_on (drop at ports) points side ≡ p ∷ points_on (drop (at + 1) ports) points side) c.path-port-items.ensures
          (found points side path at _ c.loop-port-test.true p (ap point_of w.in-Point.is) written) in
          let name = w.written.ensures ∙ w.point_name.ensures.text in
          rw w.before-is (rw w.cell-is (
            space_valid,
            joined_step (codes " ") before cell (point_name l p) (string_bytes w.add.new.cell) all _ rest c.loop-port.invariant.1 (ap (names_of_points l) left)
                (w.in_ok-add.ensures ∙ ap (λ n. cell ++ (before ++ n)) name),
          ))
      | in-Point+else-is_written w ↦
          let p = w.in-Point.point in
          let unwritten = ap (λ ps. is_written ps side p) (sym w.points.ensures) ∙ sym w.is_written.ensures ∙ w.if-is_written.false in
          let left = subst (λ ports. points_on (drop at ports) points side ≡ points_on (drop (at + 1) ports) points side) c.path-port-items.ensures
          (not_found points side path at _ c.loop-port-test.true p (ap point_of w.in-Point.is) unwritten) in
          rw w.before-is (rw w.cell-is (c.loop-port.invariant.0, joined_on (codes " ") before cell all _ rest c.loop-port.invariant.1 (ap (names_of_points l) left)))
      | in_default w ↦
          let left = subst (λ ports. points_on (drop at ports) points side ≡ points_on (drop (at + 1) ports) points side) c.path-port-items.ensures
          (no_point points side path at _ c.loop-port-test.true (other_element _ w.in_default.not-Point)) in
          rw w.before-is (rw w.cell-is (c.loop-port.invariant.0, joined_on (codes " ") before cell all _ rest c.loop-port.invariant.1 (ap (names_of_points l) left)))
    ]
