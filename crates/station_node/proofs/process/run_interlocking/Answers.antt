use Rattle.std.proofs.Common.{◌∙◌, ap, subst, sym}
use Rattle.node_kinds.specs.Interlockings.{InterlockingNode}
use Rattle.node_kinds.specs.MadeInterlocking.{seen}
use Rattle.node_kinds.specs.declared.interlocking_node.InterlockingNode.{InterlockingNode as Code}
use Rattle.node_kinds.specs.ixl_table.Table.{IsTableOf}
use Rattle.node_kinds.specs.node_drive.Kinds.{NodeState}
use Rattle.node_kinds.specs.simulator_spec.ixl_spec.Step.{Input}
use Rattle.station_node.specs.Processes.{interlocking_made, not_made}
use Rattle.station_node.proofs.Lived.{any_err, map_err, map_ok, station_is_cut, station_runs}
use Rattle.station_node.proofs.process.run_interlocking.Goals as goal

pub returns-in_err-station-clause-stopped : goal.returns-in_err-station-clause-stopped
returns-in_err-station-clause-stopped g c = any_err c.from_residual.result (not_made c.read_clock-now.ensures)

pub returns-clause-done : goal.returns-clause-done
returns-clause-done g c =
    let made = c.in_ok-station.ensures in
    let counted = c.count_on.ensures in
    let life = c.args.life in
    let now = c.read_clock-now.result in
    let node = seen c.count_on.new.self in
    let site_is = ap (λ (n : Code). n.stepped.sited.site) counted ∙ made.site in
    let is_table = subst (λ (n : Code). IsTableOf n.stepped.sited.site n.stepped.sited.table) (sym counted) made.table in
    let node_is =
    ap (λ (n : Code). (seen n).state) counted
    ∙ ap (λ (n : NodeState InterlockingNode Input). record n.state { counts = life.counts }) made.node
    ∙ sym (ap (λ (n : Code). interlocking_made n.stepped.sited.site life.first life.keeping life.counts n.stepped.sited.table now) counted) in
    map_ok c.live.result
    (station_runs c.args.checked life.keeping life.counts life.first life.for_ms life.begins c.read_clock-now.result c.args.course.now
    (g.O.Outside.told c.args.outside.now) (g.O.Outside.told c.read_clock-now.new.self) (g.O.Outside.told c.live.new.outside) node.state
    site_is is_table node_is c.requires c.read_clock-now.ensures
    c.live.new.course)
    c.live.ensures.done

pub returns-clause-stopped : goal.returns-clause-stopped
returns-clause-stopped g c =
    let made = c.in_ok-station.ensures in
    let counted = c.count_on.ensures in
    let life = c.args.life in
    let now = c.read_clock-now.result in
    let node = seen c.count_on.new.self in
    let site_is = ap (λ (n : Code). n.stepped.sited.site) counted ∙ made.site in
    let is_table = subst (λ (n : Code). IsTableOf n.stepped.sited.site n.stepped.sited.table) (sym counted) made.table in
    let node_is =
    ap (λ (n : Code). (seen n).state) counted
    ∙ ap (λ (n : NodeState InterlockingNode Input). record n.state { counts = life.counts }) made.node
    ∙ sym (ap (λ (n : Code). interlocking_made n.stepped.sited.site life.first life.keeping life.counts n.stepped.sited.table now) counted) in
    map_err c.live.result
    (station_is_cut c.args.checked life.keeping life.counts life.first life.for_ms life.begins c.read_clock-now.result c.args.course.now
    (g.O.Outside.told c.args.outside.now) (g.O.Outside.told c.read_clock-now.new.self) (g.O.Outside.told c.live.new.outside) node.state
    site_is is_table node_is c.requires c.read_clock-now.ensures)
    c.live.ensures.stopped
