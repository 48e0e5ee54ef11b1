use Rattle.station_check.proofs.ReportGrows.{pair_free, pair_told}
use Rattle.station_check.proofs.report.write_pair.Goals as goal

pub returns-then-not-conflict : goal.returns-then-not-conflict
returns-then-not-conflict g c = pair_free c.args.table.now c.args.earlier.0 c.args.later.0 (g.W.Write.contents c.args.out.now) c.conflict.result c.conflict.ensures c.if-not-conflict.true

pub returns : goal.returns
returns g c = pair_told c.args.table.now c.args.earlier.0 c.args.later.0 (g.W.Write.contents c.args.out.now) (g.W.Write.contents c.writeln.new.self) c.conflict.result c.conflict.ensures c.if-not-conflict.false
    (rw (← c.route_name-earlier.ensures, ← c.route_name-later.ensures) c.in_ok-writeln.ensures.bytes)
