use Rattle.std.proofs.Common.{◌≡◌, ◌++◌}
use Rattle.railway_check.specs.StationTexts.{all_faults, faults_at}
use Rattle.railway_check.proofs.Added.{with_rest}
use Rattle.railway_check.proofs.station_texts.add_all_faults.Given as goal

abbrev pub invariant-loop-number : goal.invariant-loop-number
invariant-loop-number l = with_rest (faults_at l.verdicts) l.stations l.number l.text.items ≡ l.fn.text.items ++ all_faults l.verdicts l.stations
