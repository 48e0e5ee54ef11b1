use Rattle.std.proofs.Common.{ap, ◌∙◌}
use Rattle.node_kinds.specs.simulator_spec.Nodes.{node_at}
use Rattle.node_kinds.specs.simulator_spec.layout.Entries.{Site}
use Rattle.station_node.specs.Processes.{rest_of}
use Rattle.station_node.proofs.Lived.{any_err, ends_at_once, ends_rested, ends_resting, map_err}
use Rattle.station_node.proofs.process.run_node.Goals as goal

pub returns-then-matches-clause-stopped : goal.returns-then-matches-clause-stopped
returns-then-matches-clause-stopped g c = map_err c.run-ran.result
    (ends_at_once c.args.checked (node_at c.args.checked c.args.node.0) c.args.asked.keeping c.args.asked.counts c.args.asked.first c.args.asked.for_ms c.read_clock-begins.result c.run-ran.new.course
    (g.O.Outside.told c.args.outside.now) (g.O.Outside.told c.read_clock-begins.new.self) (g.O.Outside.told c.run-ran.new.outside) c.read_clock-begins.ensures)
    c.run-ran.ensures.stopped

pub returns-in_err-rested-clause-stopped : goal.returns-in_err-rested-clause-stopped
returns-in_err-rested-clause-stopped g c =
    let rest = c.rest_of-rest.ensures ∙ ap (λ (s : Site). rest_of (node_at s c.args.node.0)) c.layout.ensures.entries in
    any_err c.from_residual.result
    (ends_resting c.args.checked (node_at c.args.checked c.args.node.0) c.args.asked.keeping c.args.asked.counts c.args.asked.first c.args.asked.for_ms c.read_clock-begins.result c.run-ran.new.course
    (g.O.Outside.told c.args.outside.now) (g.O.Outside.told c.read_clock-begins.new.self) (g.O.Outside.told c.run-ran.new.outside) c.read_clock-begins.ensures
    c.run-ran.result (g.O.Outside.told c.finish-rested.new.outside) c.rest_of-rest.result rest c.in_err-rested.ensures.stopped.0 c.in_err-rested.ensures.stopped.1 c.run-ran.ensures.done c.run-ran.ensures.stopped)

pub returns-clause-stopped : goal.returns-clause-stopped
returns-clause-stopped g c =
    let rest = c.rest_of-rest.ensures ∙ ap (λ (s : Site). rest_of (node_at s c.args.node.0)) c.layout.ensures.entries in
    map_err c.run-ran.result
    (ends_rested c.args.checked (node_at c.args.checked c.args.node.0) c.args.asked.keeping c.args.asked.counts c.args.asked.first c.args.asked.for_ms c.read_clock-begins.result c.run-ran.new.course
    (g.O.Outside.told c.args.outside.now) (g.O.Outside.told c.read_clock-begins.new.self) (g.O.Outside.told c.run-ran.new.outside) c.read_clock-begins.ensures
    (g.O.Outside.told c.finish-rested.new.outside) c.rest_of-rest.result rest c.in_ok-rested.ensures.done.0 c.in_ok-rested.ensures.done.1)
    c.run-ran.ensures.stopped
