use Rattle.std.proofs.Common.{◌≡◌, ◌+◌, ◌-◌, suc, arith}
use Rattle.station_check.proofs.ReportGrows.{behind_begins, next_behind}
use Rattle.station_check.proofs.report.write_conflicts.Goals as goal

pub loop-later-init : goal.loop-later-init
loop-later-init g c =
    let n : c.args.earlier.0 + 1 - suc c.args.earlier.0 ≡ 0 = omega arith in
    rw n (behind_begins c.args.table.now c.args.earlier.0 (g.W.Write.contents c.args.out.now))

pub loop-later-preserved : goal.loop-later-preserved
loop-later-preserved g c =
    next_behind c.args.table.now c.args.earlier.0 c.loop-later.later (g.W.Write.contents c.args.out.now) (g.W.Write.contents c.loop-later.out) (g.W.Write.contents c.write_pair.new.out)
    c.loop-later.auto.later c.loop-later.invariant c.in_ok-write_pair.ensures
