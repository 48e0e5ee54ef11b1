use Rattle.std.proofs.Common.{◌++◌}
use Rattle.railway_check.specs.StationTexts.{all_faults, faults_at}
use Rattle.railway_check.proofs.Added.{each_done, each_more}
use Rattle.railway_check.proofs.station_texts.add_all_faults.Goals as goal

pub loop-number-preserved : goal.loop-number-preserved
loop-number-preserved c =
    each_more (faults_at c.args.verdicts.now) c.args.stations.now c.loop-number.number c.index-stations-number.result c.loop-number.text.items c.add_faults.new.text.items
    (c.args.text.now.items ++ all_faults c.args.verdicts.now c.args.stations.now) c.loop-number-test.true c.index-stations-number.is c.in_ok-add_faults.ensures c.loop-number.invariant

pub returns : goal.returns
returns c =
    each_done (faults_at c.args.verdicts.now) c.args.stations.now c.loop-number.number c.loop-number.text.items
    (c.args.text.now.items ++ all_faults c.args.verdicts.now c.args.stations.now) c.loop-number-test.false c.loop-number.invariant
