use Rattle.std.proofs.Common.{[], ◌∷◌, ap, ℕ, List}
use Rattle.std.proofs.lemmas.Result.{on_ok_weaker}
use Rattle.control_table.specs.layout.Entries.{DetectorEntry, RouteEntry}
use Rattle.control_table.specs.layout.declared.entries.Point.{Point}
use Rattle.control_table.specs.layout.declared.entries.Signal.{Signal}
use Rattle.lane_chart.specs.declared.subject.Sort.TheVariants as sort
use Rattle.lane_chart.proofs.RowsMore.{behind, listed}
use Rattle.lane_chart.proofs.row_list.add_rows.Goals as goal

pub returns : goal.returns
returns c =
    let l = c.args.layout.now in
    let signal_name = λ (s : Signal). s.name in
    let point_name = λ (p : Point). p.name in
    let route_name = λ (r : RouteEntry). r.name in
    let detector_name = λ (d : DetectorEntry). d.name in
    let own = λ (name : List ℕ). name in
    let step-1 = listed signal_name sort.Signal c.signals.result.now l.signals c.args.rows.now.items c.add_entries.new.rows.items c.signals.ensures c.in_ok-add_entries.ensures in
    let step-2 = listed point_name sort.Point c.points.result.now l.points c.add_entries.new.rows.items c.add_entries-2.new.rows.items c.points.ensures c.in_ok-add_entries-2.ensures in
    let step-3 = listed own sort.Section c.sections.result.now l.sections c.add_entries-2.new.rows.items c.add_entries-3.new.rows.items c.sections.ensures c.in_ok-add_entries-3.ensures in
    let step-4 = listed route_name sort.Route c.routes.result.now l.routes c.add_entries-3.new.rows.items c.add_entries-4.new.rows.items c.routes.ensures c.in_ok-add_entries-4.ensures in
    let step-5 = listed signal_name sort.SignalLink c.signals-2.result.now l.signals c.add_entries-4.new.rows.items c.add_entries-5.new.rows.items c.signals-2.ensures c.in_ok-add_entries-5.ensures in
    let step-6 = listed point_name sort.PointLink c.points-2.result.now l.points c.add_entries-5.new.rows.items c.add_entries-6.new.rows.items c.points-2.ensures c.in_ok-add_entries-6.ensures in
    let step-7 = listed detector_name sort.DetectorLink c.detectors.result.now l.detectors c.add_entries-6.new.rows.items c.add_entries-7.new.rows.items c.detectors.ensures c.in_ok-add_entries-7.ensures in
    let step-8 = listed own sort.Interlocking (c.station.result.now.name ∷ []) (l.station.name ∷ []) c.add_entries-7.new.rows.items c.add_entries-8.new.rows.items (ap (λ station. station.name ∷ []) c.station.ensures) c.in_ok-add_entries-8.ensures in
    let step-9 = listed signal_name sort.SignalNode c.signals-3.result.now l.signals c.add_entries-8.new.rows.items c.add_entries-9.new.rows.items c.signals-3.ensures c.in_ok-add_entries-9.ensures in
    let step-10 = listed point_name sort.PointNode c.points-3.result.now l.points c.add_entries-9.new.rows.items c.add_entries-10.new.rows.items c.points-3.ensures c.in_ok-add_entries-10.ensures in
    let field = behind c.args.rows.now.items c.add_entries.new.rows.items c.add_entries-4.new.rows.items _ _ step-1 (behind c.add_entries.new.rows.items c.add_entries-2.new.rows.items c.add_entries-4.new.rows.items _ _ step-2 (behind c.add_entries-2.new.rows.items c.add_entries-3.new.rows.items c.add_entries-4.new.rows.items _ _ step-3 (step-4))) in
    let links = behind c.add_entries-4.new.rows.items c.add_entries-5.new.rows.items c.add_entries-7.new.rows.items _ _ step-5 (behind c.add_entries-5.new.rows.items c.add_entries-6.new.rows.items c.add_entries-7.new.rows.items _ _ step-6 (step-7)) in
    on_ok_weaker c.add_entries-11.result (λ last.
    let step-11 = listed detector_name sort.DetectorNode c.detectors-2.result.now l.detectors c.add_entries-10.new.rows.items c.add_entries-11.new.rows.items c.detectors-2.ensures last in
    let nodes = behind c.add_entries-7.new.rows.items c.add_entries-8.new.rows.items c.add_entries-11.new.rows.items _ _ step-8 (behind c.add_entries-8.new.rows.items c.add_entries-9.new.rows.items c.add_entries-11.new.rows.items _ _ step-9 (behind c.add_entries-9.new.rows.items c.add_entries-10.new.rows.items c.add_entries-11.new.rows.items _ _ step-10 (step-11))) in
    behind c.args.rows.now.items c.add_entries-4.new.rows.items c.add_entries-11.new.rows.items _ _ field (behind c.add_entries-4.new.rows.items c.add_entries-7.new.rows.items c.add_entries-11.new.rows.items _ _ links nodes)) c.add_entries-11.ensures
