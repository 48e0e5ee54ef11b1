use Rattle.std.proofs.Common.{ap, ◌∙◌, subst}
use Rattle.control_table.specs.layout.Entries.{Site}
use Rattle.station_check.specs.inside.Told.{ToldSlow}
use Rattle.station_check.proofs.ReportGrows.{reported}
use Rattle.station_check.proofs.report.write_report.Goals as goal

pub returns : goal.returns
returns g c =
    let routes = c.routes.ensures ∙ ap (λ (l : Site). l.routes) c.layout.ensures.entries in
    let slow = subst (λ rs. ToldSlow rs (g.W.Write.contents c.write_pairs.new.out) (g.W.Write.contents c.write_slow.new.out)) routes c.in_ok-write_slow.ensures in
    reported c.args.table.now (g.W.Write.contents c.args.out.now) (g.W.Write.contents c.write_pairs.new.out) (g.W.Write.contents c.write_slow.new.out) (g.W.Write.contents c.flush.new.self) c.in_ok-write_pairs.ensures slow c.in_ok-flush.ensures.bytes
