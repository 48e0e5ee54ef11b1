use Rattle.control_table.proofs.Joints.{one-beyond}
use Rattle.control_table.proofs.TableLaws.{table-sound, fails-first, only-memory}
use Rattle.control_table.proofs.checked.check.Goals as goal

pub returns-in_ok-sound_table-in-Ok-clause-accepts : goal.returns-in_ok-sound_table-in-Ok-clause-accepts
returns-in_ok-sound_table-in-Ok-clause-accepts c = table-sound c.args.layout (one-beyond c.args.layout c.is_station.ensures.once) c.in-Ok.rows.items c.in-Ok.ensures

pub returns-in-Err-clause-refuses : goal.returns-in-Err-clause-refuses
returns-in-Err-clause-refuses c = fails-first c.args.layout (one-beyond c.args.layout c.is_station.ensures.once) c.in-Err.fault c.in-Err.ensures

pub returns-in-Err-clause-complete : goal.returns-in-Err-clause-complete
returns-in-Err-clause-complete c sound =
    let one = one-beyond c.args.layout c.is_station.ensures.once in
    only-memory c.args.layout one c.in-Err.fault (fails-first c.args.layout one c.in-Err.fault c.in-Err.ensures) sound
