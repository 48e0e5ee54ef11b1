use Rattle.std.proofs.Common.{◌≡◌, ◌≤◌, ◌∷◌, [], ◌++◌, length, arith}
use Rattle.std.proofs.lemmas.List.{length_push}
use Rattle.node_drive.specs.Drives.{full}
use Rattle.node_drive.proofs.Calls.{stopped}
use Rattle.node_drive.proofs.Comings.{performs_then}
use Rattle.node_drive.proofs.DatagramsHeard.{came_none, came_one, cut_more, ends_behind, full_datagrams, heard_more, more_datagrams, some_end}
use Rattle.node_drive.proofs.datagrams_heard.hear_datagrams.Goals as goal

pub returns-in_err-hear_next-clause-stopped : goal.returns-in_err-hear_next-clause-stopped
returns-in_err-hear_next-clause-stopped g c =
    let before = c.loop-taken.invariant in
    let cut = c.in_err-hear_next.ensures.stopped in
    let count = before.1 in
    let inside = c.loop-taken-test.true in
    let more = length_push before.0 cut.0 in
    let few : length (before.0 ++ cut.0 ∷ []) ≤ 64 = omega (arith, count, inside, more) in
    let end = some_end _ (length (before.0 ++ cut.0 ∷ [])) few in
    stopped c.from_residual.result (before.0 ++ cut.0 ∷ [], end.0, few, heard_more before.0 cut.0 before.2 before.3 cut.1, end.1, cut_more before.0 cut.0 end.0 before.3 cut.2)

pub loop-taken-preserved : goal.loop-taken-preserved
loop-taken-preserved g c =
    let before = c.loop-taken.invariant in
    let came = came_one _ c.if-not-branch.false c.in_ok-hear_next.ensures.done in
    let count = before.1 in
    let more = length_push before.0 came.0 in (
      before.0 ++ came.0 ∷ [],
      omega (arith, count, more),
      heard_more before.0 came.0 before.2 before.3 came.1,
      more_datagrams before.0 came.0 before.3 came.2,
      c.in_ok-hear_next.ensures.reached,
    )

pub returns-then-not-branch-clause-done : goal.returns-then-not-branch-clause-done
returns-then-not-branch-clause-done g c =
    let before = c.loop-taken.invariant in
    let none = came_none _ c.if-not-branch.true c.in_ok-hear_next.ensures.done in
    let count = before.1 in
    let inside = c.loop-taken-test.true in
    (before.0, none.0, omega (arith, count, inside), before.2, ends_behind before.0 (length before.0) none.0 before.3 (none.1 _ (omega (arith, count, inside))), performs_then before.3 none.2)

pub returns-clause-done : goal.returns-clause-done
returns-clause-done g c =
    let before = c.loop-taken.invariant in
    let count = before.1 in
    let all : length before.0 ≡ 64 = omega (arith, count) in
    (before.0, [], omega (arith, count), before.2, full all, full_datagrams before.0 before.3)
