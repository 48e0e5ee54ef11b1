use Rattle.std.proofs.Common.{◌∷◌, [], ◌++◌, length-append, arith}
use Rattle.std.proofs.lemmas.List.{length_push}
use Rattle.node_drive.proofs.Calls.{stopped}
use Rattle.node_drive.proofs.LinesHeard.{came_none, came_one, cut_more, full_lines, more_lines, none_more}
use Rattle.node_drive.proofs.lines_heard.hear_lines.Goals as goal

pub returns-in_err-hear_next-clause-stopped : goal.returns-in_err-hear_next-clause-stopped
returns-in_err-hear_next-clause-stopped g c =
    let before = c.loop-taken.invariant in
    let cut = c.in_err-hear_next.ensures.stopped in
    let count = before.1 in
    let few = cut.2 in
    let inside = c.loop-taken-test.true in
    let more = length-append before.0 cut.0 in
    stopped c.from_residual.result (before.0 ++ cut.0, cut.1, omega (arith, count, few, inside, more), cut_more before.0 cut.0 cut.1 before.2 cut.3)

pub loop-taken-preserved : goal.loop-taken-preserved
loop-taken-preserved g c =
    let before = c.loop-taken.invariant in
    let came = came_one _ c.if-not-branch.false c.in_ok-hear_next.ensures.done in
    let count = before.1 in
    let more = length_push before.0 came.0 in (
      before.0 ++ came.0 ∷ [],
      omega (arith, count, more),
      more_lines before.0 came.0 before.2 came.1,
      c.in_ok-hear_next.ensures.reached,
    )

pub returns-then-not-branch-clause-done : goal.returns-then-not-branch-clause-done
returns-then-not-branch-clause-done g c =
    let before = c.loop-taken.invariant in
    let none = came_none _ c.if-not-branch.true c.in_ok-hear_next.ensures.done in
    let count = before.1 in
    let inside = c.loop-taken-test.true in
    let none_behind = none_more before.0 before.2 none (omega (arith, count, inside)) in
    (before.0, omega (arith, count, inside), none_behind)

pub returns-clause-done : goal.returns-clause-done
returns-clause-done g c =
    let before = c.loop-taken.invariant in
    let count = before.1 in
    (before.0, omega (arith, count), full_lines before.0 before.2 (omega (arith, count)))
