use Rattle.std.proofs.Common.{ap, ◌∙◌, sym}
use Rattle.node_kinds.specs.Controllers.{point_kind}
use Rattle.node_kinds.specs.Openings.{Motor}
use Rattle.node_kinds.specs.inside.ControllerNodes.{point_now, opening_now}
use Rattle.node_kinds.specs.simulator_spec.layout.declared.entries.Point.{Point as PointEntry}
use Rattle.station_node.specs.Processes.{point_made, told_position, waited}
use Rattle.station_node.proofs.Lived.{any_err, controls, controls_cut, map_err, map_ok, not_made_yet}
use Rattle.station_node.proofs.controllers.run_point.Goals as goal

pub returns-in_default-clause-done : goal.returns-in_default-clause-done
returns-in_default-clause-done g c = λ entry there. waited c.in_ok-opening.ensures.done (sym c.position-position.ensures ∙ c.in_default.is)

pub returns-in_err-node-clause-stopped : goal.returns-in_err-node-clause-stopped
returns-in_err-node-clause-stopped g c = any_err c.from_residual-in_err-node.result (λ (entry : PointEntry) there.
    not_made_yet point_kind c.args.told.table.now Motor told_position (point_made c.args.told.table.now c.args.told.life.first entry) c.args.told.life.for_ms c.args.told.life.begins
    (opening_now c.in_ok-opening.opening).state c.open.new.course (g.O.Outside.told c.args.outside.now) (g.O.Outside.told c.open.new.outside) c.in_ok-opening.ensures.done c.in-Some.lies (sym c.position-position.ensures ∙ c.in-Some.is) c.read_clock-now.result (g.O.Outside.told c.read_clock-now.new.self) c.read_clock-now.ensures)

pub returns-clause-done : goal.returns-clause-done
returns-clause-done g c = map_ok c.live.result (λ ran (entry : PointEntry) there.
    controls point_kind c.args.told.table.now Motor told_position (point_made c.args.told.table.now c.args.told.life.first entry) c.args.told.life.for_ms c.args.told.life.begins
    (opening_now c.in_ok-opening.opening).state c.open.new.course (g.O.Outside.told c.args.outside.now) (g.O.Outside.told c.open.new.outside) c.in_ok-opening.ensures.done c.in-Some.lies (sym c.position-position.ensures ∙ c.in-Some.is) c.read_clock-now.result
    (point_now c.in_ok-node.node).state (g.O.Outside.told c.read_clock-now.new.self) (g.O.Outside.told c.live.new.outside) c.read_clock-now.ensures
    (ap (λ n. n.state) (c.in_ok-node.ensures.made entry there)) c.live.new.course ran) c.live.ensures.done

pub returns-clause-stopped : goal.returns-clause-stopped
returns-clause-stopped g c = map_err c.live.result (λ stopped (entry : PointEntry) there.
    controls_cut point_kind c.args.told.table.now Motor told_position (point_made c.args.told.table.now c.args.told.life.first entry) c.args.told.life.for_ms c.args.told.life.begins
    (opening_now c.in_ok-opening.opening).state c.open.new.course (g.O.Outside.told c.args.outside.now) (g.O.Outside.told c.open.new.outside) c.in_ok-opening.ensures.done c.in-Some.lies (sym c.position-position.ensures ∙ c.in-Some.is) c.read_clock-now.result
    (point_now c.in_ok-node.node).state (g.O.Outside.told c.read_clock-now.new.self) (g.O.Outside.told c.live.new.outside) c.read_clock-now.ensures
    (ap (λ n. n.state) (c.in_ok-node.ensures.made entry there)) stopped) c.live.ensures.stopped
