use Rattle.station_layout.specs.Lines.{IsTable}
use Rattle.station_layout.proofs.Tables.{tabled}
use Rattle.station_layout.proofs.table.write_table.Goals as goal

pub returns-in_err-write_all-clause-faulty : goal.returns-in_err-write_all-clause-faulty
returns-in_err-write_all-clause-faulty g c none = let lines = c.in_ok-lines.ensures.is in absurd (none lines.0 lines.1)

pub returns-in_err-flush-clause-faulty : goal.returns-in_err-flush-clause-faulty
returns-in_err-flush-clause-faulty g c none = let lines = c.in_ok-lines.ensures.is in absurd (none lines.0 lines.1)

pub returns-clause-done : goal.returns-clause-done
returns-clause-done g c =
    let lines = c.in_ok-lines.ensures.is in
    let is : IsTable c.args.form lines.0 c.deref.result.now = rw c.deref.ensures.value lines.2 in (
      lines.0,
      lines.1,
      tabled c.args.form lines.0 c.deref.result.now (g.W.Write.contents c.args.out.now) (g.W.Write.contents c.write_all.new.self) (g.W.Write.contents c.flush.new.self)
          is c.in_ok-write_all.ensures.bytes c.in_ok-flush.ensures.bytes,
    )

pub returns-clause-faulty : goal.returns-clause-faulty
returns-clause-faulty g c none = let lines = c.in_ok-lines.ensures.is in absurd (none lines.0 lines.1)
