use Rattle.std.proofs.Common.{Ok, subst, sym}
use Rattle.std.proofs.lemmas.Result.{IfOk-weaker}
use Rattle.layout_text.specs.FirstFault.{Fails, Read}
use Rattle.control_table.specs.layout.Entries.{Site}
use Rattle.control_table.specs.layout.NamesResolved.{layout_in}
use Rattle.railway_layout.specs.Stations.{IsFound, IsOf}
use Rattle.railway_layout.proofs.found.found_in.Goals as goal

pub returns-in-Ok : goal.returns-in-Ok
returns-in-Ok c =
    IfOk-weaker c.judged.result (IsOf (Ok c.in-Ok.layout)) (IsFound c.args.text.now) (λ found h. subst (λ (read : Read Site). IsOf read found) (sym c.in-Ok.ensures.read) h) c.judged.ensures

pub returns-in-Err : goal.returns-in-Err
returns-in-Err c =
    IfOk-weaker c.faulty.result (λ found. (read : Read Site) → Fails c.in-Err.fault read → IsOf read found) (IsFound c.args.text.now) (λ found h. h (layout_in c.args.text.now) c.in-Err.ensures.read) c.faulty.ensures
