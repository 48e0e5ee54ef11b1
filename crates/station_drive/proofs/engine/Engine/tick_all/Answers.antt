use Rattle.std.proofs.Common.{◌≡◌, ◌∙◌, ℕ, ◌+◌, ◌-◌, List, length, map, sym, ap, arith}
use Rattle.std.proofs.lemmas.List.{map-append}
use Rattle.replay_lines.specs.Names.{node_names}
use Rattle.simulator_event.specs.declared.event.Event.{Event}
use Rattle.station_drive.specs.Doings.{Applying}
use Rattle.station_drive.specs.Rounds.{ticks}
use Rattle.station_drive.proofs.Composed.{performs_same, performs_then, stopped, stops_before, stops_same, stops_then}
use Rattle.station_drive.proofs.Rows.{ticks-more, ticks_behind}
use Rattle.station_drive.proofs.engine.Engine.tick_all.Goals as goal

pub returns-in_err-perform-clause-stopped : goal.returns-in_err-perform-clause-stopped
returns-in_err-perform-clause-stopped g c =
    let node = c.loop-node.node in
    let nodes : ℕ = length (node_names (g.S.Station.site c.args.self.now.station)) in
    let inside = c.loop-node-test.true in
    let counted = c.nodes-node-end.ensures in
    let behind = ticks_behind (node + 1) (nodes - (node + 1)) in
    let all : nodes - (node + 1) + (node + 1) ≡ nodes = omega (arith, inside, counted) in
    stopped c.from_residual.result
    (stops_same (sym (map-append Applying (ticks (node + 1)) behind.0) ∙ ap (λ (l : List Event). map Applying l) (sym behind.1 ∙ ap ticks all))
    (stops_before (map Applying behind.0) (stops_same (sym (ticks-more node)) (stops_then c.loop-node.invariant c.in_err-perform.ensures.stopped))))

pub loop-node-preserved : goal.loop-node-preserved
loop-node-preserved g c = rw (ticks-more c.loop-node.node) (performs_then c.loop-node.invariant c.in_ok-perform.ensures.done)

pub returns-clause-done : goal.returns-clause-done
returns-clause-done g c =
    let counted = c.nodes-node-end.ensures in
    let reached : c.loop-node.node ≡ c.nodes-node-end.result = omega arith in
    performs_same (ap (λ n. map Applying (ticks n)) (reached ∙ counted)) c.loop-node.invariant
