use Rattle.std.proofs.Common.{◌++◌}
use Rattle.railway_check.specs.StationTexts.{all_reports, report_at}
use Rattle.railway_check.proofs.Added.{each_done, each_more}
use Rattle.railway_check.proofs.station_texts.add_reports.Goals as goal

pub loop-number-preserved : goal.loop-number-preserved
loop-number-preserved c =
    each_more (report_at c.args.verdicts.now) c.args.stations.now c.loop-number.number c.index-stations-number.result c.loop-number.text.items c.add_report.new.text.items
    (c.args.text.now.items ++ all_reports c.args.verdicts.now c.args.stations.now) c.loop-number-test.true c.index-stations-number.is c.in_ok-add_report.ensures c.loop-number.invariant

pub returns : goal.returns
returns c =
    each_done (report_at c.args.verdicts.now) c.args.stations.now c.loop-number.number c.loop-number.text.items
    (c.args.text.now.items ++ all_reports c.args.verdicts.now c.args.stations.now) c.loop-number-test.false c.loop-number.invariant
