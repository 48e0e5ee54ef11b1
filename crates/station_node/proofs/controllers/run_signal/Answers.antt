use Rattle.std.proofs.Common.{ap, refl}
use Rattle.node_kinds.specs.Controllers.{signal_kind}
use Rattle.node_kinds.specs.Openings.{Lamp}
use Rattle.node_kinds.specs.inside.ControllerNodes.{signal_now, opening_now}
use Rattle.node_kinds.specs.simulator_spec.layout.declared.entries.Signal.{Signal as SignalEntry}
use Rattle.station_node.specs.Processes.{signal_made, told_nothing}
use Rattle.station_node.proofs.Lived.{any_err, controls, controls_cut, map_err, map_ok, not_made_yet}
use Rattle.station_node.proofs.controllers.run_signal.Goals as goal

pub returns-in_err-node-clause-stopped : goal.returns-in_err-node-clause-stopped
returns-in_err-node-clause-stopped g c = any_err c.from_residual-in_err-node.result (λ (entry : SignalEntry) there.
    not_made_yet signal_kind c.args.told.table.now Lamp told_nothing (signal_made c.args.told.table.now c.args.told.life.first entry) c.args.told.life.for_ms c.args.told.life.begins
    (opening_now c.in_ok-opening.opening).state c.open.new.course (g.O.Outside.told c.args.outside.now) (g.O.Outside.told c.open.new.outside) c.in_ok-opening.ensures.done tt (refl) c.read_clock-now.result (g.O.Outside.told c.read_clock-now.new.self) c.read_clock-now.ensures)

pub returns-clause-done : goal.returns-clause-done
returns-clause-done g c = map_ok c.live.result (λ ran (entry : SignalEntry) there.
    controls signal_kind c.args.told.table.now Lamp told_nothing (signal_made c.args.told.table.now c.args.told.life.first entry) c.args.told.life.for_ms c.args.told.life.begins
    (opening_now c.in_ok-opening.opening).state c.open.new.course (g.O.Outside.told c.args.outside.now) (g.O.Outside.told c.open.new.outside) c.in_ok-opening.ensures.done tt (refl) c.read_clock-now.result
    (signal_now c.in_ok-node.node).state (g.O.Outside.told c.read_clock-now.new.self) (g.O.Outside.told c.live.new.outside) c.read_clock-now.ensures
    (ap (λ n. n.state) (c.in_ok-node.ensures.made entry there)) c.live.new.course ran) c.live.ensures.done

pub returns-clause-stopped : goal.returns-clause-stopped
returns-clause-stopped g c = map_err c.live.result (λ stopped (entry : SignalEntry) there.
    controls_cut signal_kind c.args.told.table.now Lamp told_nothing (signal_made c.args.told.table.now c.args.told.life.first entry) c.args.told.life.for_ms c.args.told.life.begins
    (opening_now c.in_ok-opening.opening).state c.open.new.course (g.O.Outside.told c.args.outside.now) (g.O.Outside.told c.open.new.outside) c.in_ok-opening.ensures.done tt (refl) c.read_clock-now.result
    (signal_now c.in_ok-node.node).state (g.O.Outside.told c.read_clock-now.new.self) (g.O.Outside.told c.live.new.outside) c.read_clock-now.ensures
    (ap (λ n. n.state) (c.in_ok-node.ensures.made entry there)) stopped) c.live.ensures.stopped
