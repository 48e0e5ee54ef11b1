use Rattle.std.proofs.Common.{◌≤◌, List, [], ◌∷◌, ◌++◌, length, sym, arith}
use Rattle.std.proofs.lemmas.List.{length_push}
use Rattle.replay_lines.specs.Names.{node_names}
use Rattle.station_drive.specs.Rounds.{Hearing}
use Rattle.station_drive.proofs.Composed.{performs_then, stopped, stops_before, stops_same, stops_then}
use Rattle.station_drive.proofs.Rows.{hearings-push, silent_rest}
use Rattle.station_drive.proofs.engine.Engine.hear_all.Goals as goal

-- what the nodes hear after the cut is nothing
pub returns-in_err-hear-clause-stopped : goal.returns-in_err-hear-clause-stopped
returns-in_err-hear-clause-stopped g c =
    let site = g.S.Station.site c.args.self.now.station in
    let before = c.loop-node.invariant in
    let last = c.in_err-hear.ensures.stopped in
    let so_far : List Hearing = before.0 ++ last.0 ∷ [] in
    let count = before.1 in
    let more = length_push before.0 last.0 in
    let inside = c.loop-node-test.true in
    let counted = c.nodes-node-end.ensures in
    let few : length so_far ≤ length (node_names site) = omega (arith, count, more, inside, counted) in
    let all = silent_rest so_far (length (node_names site)) few in
    stopped c.from_residual.result (
      all.heard,
      all.counted,
      stops_same (sym all.is) (stops_before all.rest (stops_same (sym (hearings-push 0 before.0 last.0 c.loop-node.node (omega (arith, count)))) (stops_then before.2 last.1))),
    )

pub loop-node-preserved : goal.loop-node-preserved
loop-node-preserved g c =
    let before = c.loop-node.invariant in
    let heard = c.in_ok-hear.ensures.done in
    let count = before.1 in
    let more = length_push before.0 heard.0 in (
      before.0 ++ heard.0 ∷ [],
      omega (arith, count, more),
      rw (hearings-push 0 before.0 heard.0 c.loop-node.node (omega (arith, count))) (performs_then before.2 heard.1),
    )
